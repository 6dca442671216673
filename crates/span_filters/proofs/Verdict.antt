-- What is seen of the gaps around a span says whether it is a ledge.
use Rattle.std.proofs.Common.{◌≡◌, ℕ, ◌+◌, ◌≤◌, Bool, true, false, List, [], ◌∷◌, cond, ap, ◌∙◌, sym, refl, Option, Some, None, arith, inl, inr, min, max}
use Rattle.std.specs.Prelude.{filter, fold, nat_lt, nat_le, not, ◌&&◌, ◌||◌, if◌then◌else◌}
use Rattle.std.specs.List.{list_any, filter_map, cons_option}
use Rattle.std.specs.Option.{option_map_or}
use Rattle.std.proofs.lemmas.Bool.{cases_lt, lt-ltb, le-ltb, lt-leb, le-leb}
use Rattle.nav_ground.specs.declared.setting.Agent.{Agent}
use Rattle.nav_ground.specs.declared.field.Span.{Span}
use Rattle.nav_ground.specs.declared.field.Field.{Field}
use Rattle.nav_ground.specs.Column.{Gap, ceiling_of}
use Rattle.nav_ground.specs.Filters.{is_at_edge, is_drop, is_near, near_floors, is_steep, gaps_beside, open_gaps, is_ledge}
use Rattle.span_filters.specs.declared.gaps.AgentStand.{AgentStand}
use Rattle.span_filters.specs.declared.gaps.GapsSeen.{GapsSeen}
use Rattle.span_filters.specs.Gaps.{is_open_to, with_floor, seen_over, seen_at_first, shows_ledge}

-- one more open gap
abbrev with_open : AgentStand → GapsSeen → Gap → GapsSeen
with_open stand seen gap = option_map_or (with_floor stand seen) gap.floor (record seen { beside_drop = true })

-- the floors of gaps
abbrev floors_of : List Gap → List ℕ
floors_of gaps = filter_map (λ (gap : Gap). gap.floor) gaps

-- what is seen of gaps is what is seen of the open ones
of_open : (stand : AgentStand) (seen : GapsSeen) (gaps : List Gap) → seen_over stand seen gaps ≡ fold (with_open stand) seen (filter (is_open_to stand) gaps)
of_open stand seen [] = refl
of_open stand seen (gap ∷ gaps) =
    let taken = of_open stand (with_open stand seen gap) gaps in
    let left = of_open stand seen gaps in
    elim (is_open_to stand gap) as (λ b. seen_over stand (if b then with_open stand seen gap else seen) gaps
    ≡ fold (with_open stand) seen (cond b (gap ∷ filter (is_open_to stand) gaps) (filter (is_open_to stand) gaps))) [ true ↦ taken | false ↦ left ]

or_assoc : (a b c : Bool) → ((a || b) || c) ≡ (a || (b || c))
or_assoc true b c = refl
or_assoc false b c = refl

or_false : (a : Bool) → (a || false) ≡ a
or_false true = refl
or_false false = refl

or_true : (a : Bool) → (a || true) ≡ true
or_true true = refl
or_true false = refl

-- a test of "at most" is one of "not less" the other way round
not_less : (a b : ℕ) → nat_le a b ≡ not (nat_lt b a)
not_less a b = elim (cases_lt b a) [
  | inl less ↦ lt-leb a b less ∙ sym (ap not (lt-ltb b a less))
  | inr more ↦ le-leb a b more ∙ sym (ap not (le-ltb b a more))
]

-- what is seen of one more floor, by its two tests
of_floor : Bool → Bool → GapsSeen → ℕ → GapsSeen
of_floor below near seen floor =
    if below then record seen { beside_drop = true }
    else (if near then record seen { least = min seen.least floor; greatest = max seen.greatest floor } else seen)

floor_drop : (below near : Bool) (seen : GapsSeen) (floor : ℕ) → (of_floor below near seen floor).beside_drop ≡ (seen.beside_drop || below)
unfolding of_floor
floor_drop true near seen floor = sym (or_true seen.beside_drop)
floor_drop false true seen floor = sym (or_false seen.beside_drop)
floor_drop false false seen floor = sym (or_false seen.beside_drop)

floor_least : (below near : Bool) (seen : GapsSeen) (floor : ℕ)
    → (of_floor below near seen floor).least ≡ (if (not below && near) then min seen.least floor else seen.least)
unfolding of_floor
floor_least true near seen floor = refl
floor_least false true seen floor = refl
floor_least false false seen floor = refl

floor_greatest : (below near : Bool) (seen : GapsSeen) (floor : ℕ)
    → (of_floor below near seen floor).greatest ≡ (if (not below && near) then max seen.greatest floor else seen.greatest)
unfolding of_floor
floor_greatest true near seen floor = refl
floor_greatest false true seen floor = refl
floor_greatest false false seen floor = refl

module _ (stand : AgentStand) where
  -- a floor within the climb of the own one
  is_close : ℕ → Bool
  unfolding of_floor
  is_close floor = is_near stand.climb stand.floor floor

  -- a drop among open gaps is seen
  gap_drop : (seen : GapsSeen) (floor : Option ℕ) → (option_map_or (with_floor stand seen) floor (record seen { beside_drop = true })).beside_drop
      ≡ (seen.beside_drop || option_map_or (λ f. nat_lt (f + stand.climb) stand.floor) floor true)
  unfolding of_floor
  gap_drop seen None = sym (or_true seen.beside_drop)
  gap_drop seen (Some f) = floor_drop (nat_lt (f + stand.climb) stand.floor) (nat_le f (stand.floor + stand.climb)) seen f

  drop_seen : (seen : GapsSeen) (gaps : List Gap)
      → (fold (with_open stand) seen gaps).beside_drop ≡ (seen.beside_drop || list_any (is_drop stand.climb stand.floor) gaps)
  drop_seen seen [] = sym (or_false seen.beside_drop)
  drop_seen seen (gap ∷ gaps) = drop_seen (with_open stand seen gap) gaps
      ∙ ap (λ b. b || list_any (is_drop stand.climb stand.floor) gaps) (gap_drop seen gap.floor)
      ∙ or_assoc seen.beside_drop (is_drop stand.climb stand.floor gap) (list_any (is_drop stand.climb stand.floor) gaps)

  -- a fold over what a test keeps of one more element
  one_more : (f : ℕ → ℕ → ℕ) (a x : ℕ) (xs : List ℕ) (keep : Bool) → fold f (if keep then f a x else a) xs ≡ fold f a (cond keep (x ∷ xs) xs)
  one_more f a x xs true = refl
  one_more f a x xs false = refl

  close_is : (floor : ℕ) → (not (nat_lt (floor + stand.climb) stand.floor) && nat_le floor (stand.floor + stand.climb)) ≡ is_near stand.climb stand.floor floor
  close_is floor = ap (λ b. b && nat_le floor (stand.floor + stand.climb)) (sym (not_less stand.floor (floor + stand.climb)))

  -- the least and the greatest that are seen are those of the near floors
  gap_least : (seen : GapsSeen) (floor : Option ℕ) (rest : List ℕ)
      → fold min (option_map_or (with_floor stand seen) floor (record seen { beside_drop = true })).least (filter (is_near stand.climb stand.floor) rest)
      ≡ fold min seen.least (filter (is_near stand.climb stand.floor) (cons_option floor rest))
  unfolding of_floor
  gap_least seen None rest = refl
  gap_least seen (Some f) rest =
      ap (λ n. fold min n (filter (is_near stand.climb stand.floor) rest))
      (floor_least (nat_lt (f + stand.climb) stand.floor) (nat_le f (stand.floor + stand.climb)) seen f
      ∙ ap (λ b. if b then min seen.least f else seen.least) (close_is f))
      ∙ one_more min seen.least f (filter (is_near stand.climb stand.floor) rest) (is_near stand.climb stand.floor f)

  gap_greatest : (seen : GapsSeen) (floor : Option ℕ) (rest : List ℕ)
      → fold max (option_map_or (with_floor stand seen) floor (record seen { beside_drop = true })).greatest (filter (is_near stand.climb stand.floor) rest)
      ≡ fold max seen.greatest (filter (is_near stand.climb stand.floor) (cons_option floor rest))
  unfolding of_floor
  gap_greatest seen None rest = refl
  gap_greatest seen (Some f) rest =
      ap (λ n. fold max n (filter (is_near stand.climb stand.floor) rest))
      (floor_greatest (nat_lt (f + stand.climb) stand.floor) (nat_le f (stand.floor + stand.climb)) seen f
      ∙ ap (λ b. if b then max seen.greatest f else seen.greatest) (close_is f))
      ∙ one_more max seen.greatest f (filter (is_near stand.climb stand.floor) rest) (is_near stand.climb stand.floor f)

  least_seen : (seen : GapsSeen) (gaps : List Gap)
      → (fold (with_open stand) seen gaps).least ≡ fold min seen.least (filter (is_near stand.climb stand.floor) (floors_of gaps))
  least_seen seen [] = refl
  least_seen seen (gap ∷ gaps) = least_seen (with_open stand seen gap) gaps ∙ gap_least seen gap.floor (floors_of gaps)

  greatest_seen : (seen : GapsSeen) (gaps : List Gap)
      → (fold (with_open stand) seen gaps).greatest ≡ fold max seen.greatest (filter (is_near stand.climb stand.floor) (floors_of gaps))
  greatest_seen seen [] = refl
  greatest_seen seen (gap ∷ gaps) = greatest_seen (with_open stand seen gap) gaps ∙ gap_greatest seen gap.floor (floors_of gaps)

-- a number is less than the greater of two where it is less than one of them, and the lesser of two less where one of them is
less_max : (n a b : ℕ) → nat_lt n (max a b) ≡ (nat_lt n a || nat_lt n b)
less_max n a b = elim (cases_lt n a) [
  | inl less ↦ lt-ltb n (max a b) (omega (arith, less)) ∙ sym (ap (λ t. t || nat_lt n b) (lt-ltb n a less))
  | inr more ↦ elim (cases_lt n b) [
    | inl less' ↦ lt-ltb n (max a b) (omega (arith, less')) ∙ sym (or_true (nat_lt n a)) ∙ sym (ap (λ t. nat_lt n a || t) (lt-ltb n b less'))
    | inr more' ↦ le-ltb n (max a b) (omega (arith, more, more')) ∙ sym (ap (λ t. t || nat_lt n b) (le-ltb n a more) ∙ le-ltb n b more')
  ]
]

less_min : (climb most a b : ℕ) → nat_lt (min a b + climb) most ≡ (nat_lt (a + climb) most || nat_lt (b + climb) most)
less_min climb most a b = elim (cases_lt (a + climb) most) [
  | inl less ↦ lt-ltb (min a b + climb) most (omega (arith, less)) ∙ sym (ap (λ t. t || nat_lt (b + climb) most) (lt-ltb (a + climb) most less))
  | inr more ↦ elim (cases_lt (b + climb) most) [
    | inl less' ↦
        lt-ltb (min a b + climb) most (omega (arith, less')) ∙ sym (or_true (nat_lt (a + climb) most))
        ∙ sym (ap (λ t. nat_lt (a + climb) most || t) (lt-ltb (b + climb) most less'))
    | inr more' ↦
        le-ltb (min a b + climb) most (omega (arith, more, more'))
        ∙ sym (ap (λ t. t || nat_lt (b + climb) most) (le-ltb (a + climb) most more) ∙ le-ltb (b + climb) most more')
  ]
]

-- the same for the greatest and the least of a list
any_greater : (n a : ℕ) (xs : List ℕ) → list_any (λ high. nat_lt n high) (a ∷ xs) ≡ nat_lt n (fold max a xs)
any_greater n a [] = or_false (nat_lt n a)
any_greater n a (x ∷ xs) =
    sym (or_assoc (nat_lt n a) (nat_lt n x) (list_any (λ high. nat_lt n high) xs))
    ∙ ap (λ b. b || list_any (λ high. nat_lt n high) xs) (sym (less_max n a x))
    ∙ any_greater n (max a x) xs

any_less : (climb most a : ℕ) (xs : List ℕ) → list_any (λ low. nat_lt (low + climb) most) (a ∷ xs) ≡ nat_lt (fold min a xs + climb) most
any_less climb most a [] = or_false (nat_lt (a + climb) most)
any_less climb most a (x ∷ xs) =
    sym (or_assoc (nat_lt (a + climb) most) (nat_lt (x + climb) most) (list_any (λ low. nat_lt (low + climb) most) xs))
    ∙ ap (λ b. b || list_any (λ low. nat_lt (low + climb) most) xs) (sym (less_min climb most a x))
    ∙ any_less climb most (min a x) xs

any_agree : {A : Type 0} (p q : A → Bool) → ((x : A) → p x ≡ q x) → (xs : List A) → list_any p xs ≡ list_any q xs
any_agree p q same [] = refl
any_agree p q same (x ∷ xs) = ap (λ b. b || list_any p xs) (same x) ∙ ap (λ b. q x || b) (any_agree p q same xs)

-- heights are steep where the least and the greatest differ by more than the climb
steep_is : (climb a : ℕ) (xs : List ℕ) → is_steep climb (a ∷ xs) ≡ nat_lt (fold min a xs + climb) (fold max a xs)
steep_is climb a xs =
    any_agree (λ low. list_any (λ high. nat_lt (low + climb) high) (a ∷ xs)) (λ low. nat_lt (low + climb) (fold max a xs))
    (λ low. any_greater (low + climb) a xs) (a ∷ xs)
    ∙ any_less climb (fold max a xs) a xs

-- what is seen never rises in its least
least_of_more : (a : ℕ) (xs : List ℕ) → fold min a xs ≤ a
least_of_more a [] = omega arith
least_of_more a (x ∷ xs) = let rest = least_of_more (min a x) xs in omega (arith, rest)

pub least_falls : (stand : AgentStand) (seen now : GapsSeen) (gaps : List Gap) → now ≡ seen_over stand seen gaps → now.least ≤ seen.least
least_falls stand seen now gaps is =
    let least = ap (λ (s : GapsSeen). s.least) (is ∙ of_open stand seen gaps) ∙ least_seen stand seen (filter (is_open_to stand) gaps) in
    omega (arith, least, least_of_more seen.least (filter (is_near stand.climb stand.floor) (floors_of (filter (is_open_to stand) gaps))))

-- a span at the field's edge is a ledge
pub ledge_at_edge : (field : Field) (agent : Agent) (span : Span) → is_at_edge field span ≡ true → true ≡ is_ledge field agent span
unfolding is_ledge
ledge_at_edge field agent span edge =
    let around = open_gaps agent.height field.spans span in
    ap (λ b. b || list_any (is_drop agent.climb span.top) around || is_steep agent.climb (near_floors agent.climb span.top around)) (sym edge)

-- another span is one where a drop or too great a difference is seen
ledge_not_at_edge : (field : Field) (agent : Agent) (span : Span) → is_at_edge field span ≡ false
    → (list_any (is_drop agent.climb span.top) (open_gaps agent.height field.spans span)
    || is_steep agent.climb (near_floors agent.climb span.top (open_gaps agent.height field.spans span))) ≡ is_ledge field agent span
unfolding is_ledge
ledge_not_at_edge field agent span inside =
    let around = open_gaps agent.height field.spans span in
    ap (λ b. b || list_any (is_drop agent.climb span.top) around || is_steep agent.climb (near_floors agent.climb span.top around)) (sym inside)

verdict_of : (climb floor : ℕ) (gaps : List Gap) (seen : GapsSeen) → seen.beside_drop ≡ list_any (is_drop climb floor) gaps
    → seen.least ≡ fold min floor (filter (is_near climb floor) (floors_of gaps))
    → seen.greatest ≡ fold max floor (filter (is_near climb floor) (floors_of gaps))
    → shows_ledge seen climb
    ≡ (list_any (is_drop climb floor) gaps || is_steep climb (near_floors climb floor gaps))
verdict_of climb floor gaps seen drops least greatest =
    let near = filter (is_near climb floor) (floors_of gaps) in
    ap (λ b. b || nat_lt (seen.least + climb) seen.greatest) drops
    ∙ ap (λ n. list_any (is_drop climb floor) gaps || nat_lt (n + climb) seen.greatest) least
    ∙ ap (λ n. list_any (is_drop climb floor) gaps || nat_lt (fold min floor near + climb) n) greatest
    ∙ ap (λ b. list_any (is_drop climb floor) gaps || b) (sym (steep_is climb floor near))

pub ledge_seen : (field : Field) (agent : Agent) (span : Span) (stand : AgentStand) (seen : GapsSeen) → is_at_edge field span ≡ false
    → stand ≡ record { floor = span.top; ceiling = ceiling_of field.spans span; height = agent.height; climb = agent.climb }
    → seen ≡ seen_over stand (seen_at_first stand) (gaps_beside field.spans span)
    → shows_ledge seen agent.climb ≡ is_ledge field agent span
ledge_seen field agent span stand seen inside at is =
    let own : AgentStand = record { floor = span.top; ceiling = ceiling_of field.spans span; height = agent.height; climb = agent.climb } in
    let around = open_gaps agent.height field.spans span in
    let now : seen ≡ fold (with_open own) (seen_at_first own) around =
    is ∙ ap (λ (s : AgentStand). seen_over s (seen_at_first s) (gaps_beside field.spans span)) at
    ∙ of_open own (seen_at_first own) (gaps_beside field.spans span) in
    verdict_of agent.climb span.top around seen
    (ap (λ (s : GapsSeen). s.beside_drop) now ∙ drop_seen own (seen_at_first own) around)
    (ap (λ (s : GapsSeen). s.least) now ∙ least_seen own (seen_at_first own) around)
    (ap (λ (s : GapsSeen). s.greatest) now ∙ greatest_seen own (seen_at_first own) around)
    ∙ ledge_not_at_edge field agent span inside

-- the same for a span that is found at its place in a list of the field's spans
pub ledge_found : (field : Field) (agent : Agent) (spans : List Span) (span here : Span) (ceiling : ℕ) (seen : GapsSeen)
    → spans ≡ field.spans → span ≡ here → is_at_edge field span ≡ false → ceiling ≡ ceiling_of spans span
    → ◌≡◌ {A = GapsSeen} seen (seen_over (record { floor = span.top; ceiling = ceiling; height = agent.height; climb = agent.climb })
    (record { beside_drop = false; least = span.top; greatest = span.top }) (gaps_beside spans span))
    → shows_ledge seen agent.climb ≡ is_ledge field agent here
ledge_found field agent spans span here ceiling seen same at inside under is =
    let stand : AgentStand = record { floor = span.top; ceiling = ceiling; height = agent.height; climb = agent.climb } in
    let own : AgentStand = record { floor = span.top; ceiling = ceiling_of field.spans span; height = agent.height; climb = agent.climb } in
    let stands : stand ≡ own =
    ap (λ n. record { floor = span.top; ceiling = n; height = agent.height; climb = agent.climb })
    (under ∙ ap (λ (xs : List Span). ceiling_of xs span) same) in
    ledge_seen field agent span stand seen inside stands
    (is ∙ ap (λ (xs : List Span). seen_over stand (seen_at_first stand) (gaps_beside xs span)) same)
    ∙ ap (is_ledge field agent) at

pub edge_found : (field : Field) (agent : Agent) (span here : Span) → span ≡ here → is_at_edge field span ≡ true → true ≡ is_ledge field agent here
edge_found field agent span here at edge = ledge_at_edge field agent span edge ∙ ap (is_ledge field agent) at
