-- Each step on the table's word keeps the rule: take the turn, give it back, look at the word.
use Rattle.std.proofs.Common.{◌≡◌, ◌≢◌, ℕ, ◌+◌, ◌*◌, ◌/◌, ◌%◌, true, false, eqb, List, [], ◌∷◌, length, slice_index, slice_set, Option, Some, None, refl, sym, ◌∙◌, ap, subst, ⊎_elim, length-set, get_or-set_same, arith}
use Rattle.std.specs.Prelude.{All}
use Rattle.std.proofs.lemmas.List.Elements.{All-cons, All-head, All-tail, All-weaker, All-nil}
use mathlib.Core.Option as maybe
use mathlib.Core.Logic.{dite}
use native.Mathlib.Decide.{ℕ_discrete}
use prog.Atomic.{either}
use lib.ListN.{get_elem?}
use Rattle.atomic_table.specs.Table.{State, Me, Act, step, stepped, Allows, Valid, keeps, takes, gives, carried_after}
use Rattle.atomic_table.proofs.Lists.{at_set, set_here, set_else, set_again, exchanged}
use Rattle.turn_lock.specs.declared.view.Claim.{Claim}
use Rattle.turn_lock.specs.declared.view.SeatView.{SeatView}
use Rattle.turn_lock.specs.Growth.{Extends, Grows}
use Rattle.turn_lock.specs.Turns.{Stands, Knows, HasTurn, Phase, Turns, Takes, Gives, Looks, Returns}
use Rattle.turn_lock.specs.SeatViews.{having_seen, having_met, claims_of}
use Rattle.turn_lock.proofs.GrowthLemmas.{Extends-itself, Extends-length, Extends-grown, Grows-length, Grows-makers}
use Rattle.turn_lock.proofs.TableLemmas.{at_below, same_at, set_itself}

-- where the word is even, nobody has the turn and the value is at home
module _ {B G E : Type 0} (root_of : B → G) (entries : B → List E) where
  pub record AtHome (r : G) (current : List E) (holder : Option ℕ) (word : ℕ) (home : maybe.Option (maybe.Option B)) : Type 0 where
    pub free : holder ≡ None
    pub even : word ≡ 2 * length current
    pub value : B
    pub there : home ≡ maybe.some (maybe.some value)
    pub list : entries value ≡ current
    pub root : root_of value ≡ r

  pub at_home : (r : G) (current : List E) (holder : Option ℕ) (word : ℕ) (home : maybe.Option (maybe.Option B)) → word % 2 ≡ 0 → Phase root_of entries r current holder word home → AtHome r current holder word home
  at_home r current None word home even p = record { free = refl; even = p.0; value = p.1; there = p.2; list = p.3; root = p.4 }
  at_home r current (Some seat) word home even p = absurd (let odd = p.0 in omega arith)

  pub resting : (r : G) (current : List E) (holder : Option ℕ) (word : ℕ) (home : maybe.Option (maybe.Option B)) → holder ≡ None → Phase root_of entries r current holder word home → AtHome r current holder word home
  resting r current None word home free p = record { free = refl; even = p.0; value = p.1; there = p.2; list = p.3; root = p.4 }
  resting r current (Some seat) word home free p = absurd (let e = free in cc)

  -- half the word is the length of the list
  pub half : (r : G) (current : List E) (holder : Option ℕ) (word : ℕ) (home : maybe.Option (maybe.Option B)) → Phase root_of entries r current holder word home → word / 2 ≡ length current
  half r current None word home p = let even = p.0 in omega arith
  half r current (Some seat) word home p = let odd = p.0 in omega arith

  -- while the seat has the turn, the slot is out
  pub slot_out : (r : G) (current : List E) (holder : Option ℕ) (seat word : ℕ) (home : maybe.Option (maybe.Option B)) → holder ≡ Some seat → Phase root_of entries r current holder word home → word ≡ 2 * length current + 1
  slot_out r current None seat word home is p = cc
  slot_out r current (Some other) seat word home is p = p.0

module _ {B G E : Type 0} (root_of : B → G) (entries : B → List E) (maker : E → ℕ) (r : G) (passes : ℕ) where
  abbrev Rule : State B (SeatView G E) → Type 0
  Rule = Turns root_of entries maker r passes

  -- the word is set to itself, and the seat keeps what it knows
  stays : (s : State B (SeatView G E)) (id : ℕ) (me : Me B (SeatView G E)) → get_elem? s.views id ≡ maybe.some me.0 → Rule s → Rule (stepped s 0 (slice_index s.words 0) id me.1 me.0 keeps)
  stays s id me at t =
      let one = t.one_word in
      let words : slice_set s.words 0 (slice_index s.words 0) ≡ s.words = set_itself s.words 0 (omega arith) in
      let views : slice_set s.views id me.0 ≡ s.views = set_again s.views id me.0 at in
      subst Rule (λ i. record { words = sym words i; homes = s.homes; views = sym views i }) t

  -- What a seat knows of a list that it has just seen whole
  seen_whole : (count : ℕ) (seat_of : ℕ → ℕ) (seat : ℕ) (current list : List E) (claim : Claim E) → list ≡ current → Stands maker count seat_of seat current claim
      → Stands maker count seat_of seat current (record { number = claim.number; seen = list; met = length list })
  seen_whole count seat_of seat current list claim same stands =
      let long = ap length same in
      record { given = stands.given; place = stands.place; extends = subst (λ l. Extends maker claim.number l current) (sym same) (Extends-itself maker claim.number current); met = omega arith; met_all = omega arith }

  -- what the seats know after a step of one of them
  known : (s : State B (SeatView G E)) (t : Rule s) (id : ℕ) (w : SeatView G E) (current : List E) (holder : Option ℕ)
      → Knows maker r current t.count t.chief t.seat_of holder id w
      → ((seat : ℕ) (v : SeatView G E) → seat ≢ id → Knows maker r t.current t.count t.chief t.seat_of t.holder seat v → Knows maker r current t.count t.chief t.seat_of holder seat v)
      → (seat : ℕ) (v : SeatView G E) (g : G) → get_elem? (slice_set s.views id w) seat ≡ maybe.some v → v.root ≡ Some g → Knows maker r current t.count t.chief t.seat_of holder seat v
  known s t id w current holder own others seat v g e rooted = ⊎_elim
      (λ (here, is). let P : ℕ → Type 0 = λ i. Knows maker r current t.count t.chief t.seat_of holder i v in
      subst P (sym here) (subst (Knows maker r current t.count t.chief t.seat_of holder id) is own))
      (λ (else, there). others seat v else (t.knows seat v g there rooted))
      (at_set s.views id seat w v e)

  -- the seat that has the turn still has it after a step that leaves that
  pub holds_on : (s : State B (SeatView G E)) (t : Rule s) (id : ℕ) (v w : SeatView G E) → get_elem? s.views id ≡ maybe.some v → w.root ≡ Some r → (v.holds ≡ true → w.holds ≡ true)
      → (seat : ℕ) → t.holder ≡ Some seat → HasTurn r (slice_set s.views id w) seat
  holds_on s t id v w at rooted still seat told =
      let has = t.turn seat told in
      dite (ℕ_discrete seat id)
      (λ same. let there : get_elem? s.views id ≡ maybe.some has.view = subst (λ i. get_elem? s.views i ≡ maybe.some has.view) same has.there in
      let is : has.view ≡ v = same_at s.views id has.view v there at in
      subst (HasTurn r (slice_set s.views id w)) (sym same) (record { view = w; there = set_here s.views id w (at_below s.views id v at); root = rooted; holds = still (sym (ap (λ u. u.holds) is) ∙ has.holds) }))
      (λ apart. record { view = has.view; there = set_else s.views id seat w apart ∙ has.there; root = has.root; holds = has.holds })

  -- take the turn
  taken : (s : State B (SeatView G E)) (t : Rule s) (n id : ℕ) (me : Me B (SeatView G E)) (old new : ℕ) → new ≡ old + 1 → me.1 ≡ [] → me.0.taken ≡ [] → me.0.root ≡ Some r
      → get_elem? s.views id ≡ maybe.some me.0 → AtHome root_of entries r t.current t.holder old (get_elem? s.homes 0) → (found : ℕ) → found ≡ old
      → (w : SeatView G E) × (a : Act B) × Valid s.homes me.1 a × Rule (stepped s 0 new id me.1 w a) × Takes root_of entries maker (step n 0 old new maybe.none) me found (w, carried_after me.1 a)
  taken s t n id me old new next idle single rooted at home found is =
      let knows = t.knows id me.0 r at rooted in
      let own : Stands maker t.count t.seat_of id t.current me.0.own = All-head (Stands maker t.count t.seat_of id t.current) me.0.own me.0.taken knows.claims in
      let long = ap length home.list in
      let w : SeatView G E = having_seen true (entries home.value) me.0 in
      let one = t.one_word in
      let slot = t.one_slot in
      let here = at_below s.views id me.0 at in
      let word : slice_index (slice_set s.words 0 new) 0 ≡ new = get_or-set_same s.words 0 new 0 (omega arith) in (
        w,
        takes 0 home.value,
        home.there,
        record {
          current = t.current;
          count = t.count;
          chief = t.chief;
          seat_of = t.seat_of;
          holder = Some id;
          one_word = length-set s.words 0 new ∙ t.one_word;
          one_slot = length-set s.homes 0 maybe.none ∙ t.one_slot;
          within = t.within;
          room = t.room;
          phase = (let even = home.even in omega arith, set_here s.homes 0 maybe.none (omega arith));
          makers = t.makers;
          turn = λ seat told. let same : id ≡ seat = cc in subst (HasTurn r (slice_set s.views id w)) same (record { view = w; there = set_here s.views id w here; root = rooted; holds = refl });
          knows = known s t id w t.current (Some id)
              (record {
                root = rooted;
                claims = All-cons (Stands maker t.count t.seat_of id t.current) w.own w.taken (seen_whole t.count t.seat_of id t.current (entries home.value) me.0.own home.list own) (All-tail (Stands maker t.count t.seat_of id t.current) me.0.own me.0.taken knows.claims);
                holds = λ _. (refl, home.list);
                given = knows.given;
              })
              (λ seat v else k. record { root = k.root; claims = k.claims; holds = λ h. let told : t.holder ≡ Some seat = (k.holds h).0 in let free = home.free in cc; given = k.given });
        },
        (
          (λ _. (home.value, (λ i. (w, (0, home.value) ∷ me.1)), record { root = rooted ∙ ap Some (sym home.root); extends = subst (Extends maker me.0.own.number me.0.own.seen) (sym home.list) own.extends; met = let m = own.met in omega arith })),
          (λ miss. absurd (miss is)),
        ),
      )

  pub takes_turn : (n id : ℕ) (me : Me B (SeatView G E)) (old new : ℕ) → old % 2 ≡ 0 → new ≡ old + 1 → me.1 ≡ [] → me.0.taken ≡ [] → me.0.root ≡ Some r
      → Allows Rule n id me 0 (λ y. either (eqb y old) new y) (Takes root_of entries maker (step n 0 old new maybe.none) me)
  takes_turn n id me old new even next idle single rooted s t wide at fits =
      exchanged (slice_index s.words 0) old new
      (λ x. (w : SeatView G E) × (a : Act B) × Valid s.homes me.1 a × Rule (stepped s 0 x id me.1 w a) × Takes root_of entries maker (step n 0 old new maybe.none) me (slice_index s.words 0) (w, carried_after me.1 a))
      (λ hit. let p : Phase root_of entries r t.current t.holder old (get_elem? s.homes 0) = subst (λ x. Phase root_of entries r t.current t.holder x (get_elem? s.homes 0)) hit t.phase in
      taken s t n id me old new next idle single rooted at (at_home root_of entries r t.current t.holder old (get_elem? s.homes 0) even p) (slice_index s.words 0) hit)
      (λ miss. (me.0, keeps, tt, stays s id me at t, ((λ hit. absurd (miss hit)), (λ _. refl))))

  -- give it back
  given_back : (s : State B (SeatView G E)) (t : Rule s) (n id : ℕ) (v : SeatView G E) (value : B) (word : ℕ) → word ≡ 2 * length (entries value)
      → Returns root_of entries maker r v value → get_elem? s.views id ≡ maybe.some v
      → (w : SeatView G E) × (a : Act B) × Valid s.homes ((0, value) ∷ []) a × Rule (stepped s 0 word id ((0, value) ∷ []) w a)
      × Gives entries (step n 0 word 0 maybe.none) (v, (0, value) ∷ []) word (w, carried_after ((0, value) ∷ []) a)
  given_back s t n id v value word is back at =
      let knows = t.knows id v r at back.rooted in
      let has = knows.holds back.holds in
      let own : Stands maker t.count t.seat_of id t.current v.own = All-head (Stands maker t.count t.seat_of id t.current) v.own v.taken knows.claims in
      let list : List E = entries value in
      let grows : Grows maker (Some v.own.number) t.current list = subst (λ l. Grows maker (Some v.own.number) l list) has.1 back.grows in
      let w : SeatView G E = having_seen false list v in
      let one = t.one_word in
      let slot = t.one_slot in
      let long = Grows-length maker (Some v.own.number) t.current list grows in
      let own' : Stands maker t.count t.seat_of id list w.own = record { given = own.given; place = own.place; extends = Extends-itself maker v.own.number list; met = omega arith; met_all = omega arith } in
      let none : w.taken ≡ [] = back.single in (
        w,
        gives,
        tt,
        record {
          current = list;
          count = t.count;
          chief = t.chief;
          seat_of = t.seat_of;
          holder = None;
          one_word = length-set s.words 0 word ∙ t.one_word;
          one_slot = length-set s.homes 0 (maybe.some value) ∙ t.one_slot;
          within = t.within;
          room = back.room;
          phase = (get_or-set_same s.words 0 word 0 (omega arith) ∙ is, value, set_here s.homes 0 (maybe.some value) (omega arith), (λ i. list), back.root);
          makers = Grows-makers maker v.own.number t.count t.current list own.given grows t.makers;
          turn = λ seat told. absurd (let e = told in cc);
          knows = known s t id w list None
              (record {
                root = back.rooted;
                claims = subst (λ l. All (Stands maker t.count t.seat_of id list) (w.own ∷ l)) (sym none) (All-cons (Stands maker t.count t.seat_of id list) w.own [] own' (All-nil (Stands maker t.count t.seat_of id list)));
                holds = λ h. absurd (let e = h in cc);
                given = knows.given;
              })
              (λ seat u else k. record {
                root = k.root;
                claims = All-weaker (Stands maker t.count t.seat_of seat t.current) (Stands maker t.count t.seat_of seat list)
                    (λ claim stands. record {
                      given = stands.given;
                      place = stands.place;
                      extends = Extends-grown maker claim.number v.own.number claim.seen t.current list (λ same. else (sym stands.place ∙ ap t.seat_of same ∙ own.place)) grows stands.extends;
                      met = let m = stands.met in omega arith;
                      met_all = stands.met_all;
                    })
                    (claims_of u) k.claims;
                holds = λ h. absurd (let told : t.holder ≡ Some seat = (k.holds h).0 in let mine : t.holder ≡ Some id = has.0 in let same : seat ≡ id = cc in else same);
                given = k.given;
              });
        },
        (λ i. (w, [])),
      )

  pub gives_turn : (n id : ℕ) (v : SeatView G E) (value : B) (word : ℕ) → word ≡ 2 * length (entries value) → Returns root_of entries maker r v value
      → Allows Rule n id (v, (0, value) ∷ []) 0 (λ _. word) (λ _. Gives entries (step n 0 word 0 maybe.none) (v, (0, value) ∷ []) word)
  gives_turn n id v value word is back s t wide at fits = given_back s t n id v value word is back at

  -- The same, where the seat is known to hold the slot by an equation
  pub gives_turn_as : (n id : ℕ) (me : Me B (SeatView G E)) (value : B) (word : ℕ) → me.1 ≡ (0, value) ∷ [] → word ≡ 2 * length (entries value) → Returns root_of entries maker r me.0 value
      → Allows Rule n id me 0 (λ _. word) (λ _. Gives entries (step n 0 word 0 maybe.none) me word)
  gives_turn_as n id me value word held is back =
      subst (λ (l : List (ℕ × B)). Allows Rule n id (me.0, l) 0 (λ _. word) (λ _. Gives entries (step n 0 word 0 maybe.none) (me.0, l) word)) (sym held) (gives_turn n id me.0 value word is back)

  -- look at the word
  looked : (s : State B (SeatView G E)) (t : Rule s) (n id : ℕ) (me : Me B (SeatView G E)) → me.0.taken ≡ [] → me.0.root ≡ Some r → get_elem? s.views id ≡ maybe.some me.0
      → (w : SeatView G E) × (a : Act B) × Valid s.homes me.1 a × Rule (stepped s 0 (slice_index s.words 0) id me.1 w a)
      × Looks (step {S = B} n 0 0 0 maybe.none) me (slice_index s.words 0) (w, carried_after me.1 a)
  looked s t n id me single rooted at =
      let knows = t.knows id me.0 r at rooted in
      let own : Stands maker t.count t.seat_of id t.current me.0.own = All-head (Stands maker t.count t.seat_of id t.current) me.0.own me.0.taken knows.claims in
      let word : ℕ = slice_index s.words 0 in
      let length_is : word / 2 ≡ length t.current = half root_of entries r t.current t.holder word (get_elem? s.homes 0) t.phase in
      let w : SeatView G E = having_met (word / 2) me.0 in
      let one = t.one_word in
      let here = at_below s.views id me.0 at in
      let same : slice_set s.words 0 word ≡ s.words = set_itself s.words 0 (omega arith) in
      let seen = Extends-length maker me.0.own.number me.0.own.seen t.current own.extends in
      let room = t.room in
      let kept : Rule (record { words = s.words; homes = s.homes; views = slice_set s.views id w }) = record {
        current = t.current;
        count = t.count;
        chief = t.chief;
        seat_of = t.seat_of;
        holder = t.holder;
        one_word = t.one_word;
        one_slot = t.one_slot;
        within = t.within;
        room = t.room;
        phase = t.phase;
        makers = t.makers;
        turn = λ seat told. holds_on s t id me.0 w at rooted (λ h. h) seat told;
        knows = known s t id w t.current t.holder
            (record {
              root = rooted;
              claims = All-cons (Stands maker t.count t.seat_of id t.current) w.own w.taken
                  (record { given = own.given; place = own.place; extends = own.extends; met = omega arith; met_all = omega arith })
                  (All-tail (Stands maker t.count t.seat_of id t.current) me.0.own me.0.taken knows.claims);
              holds = knows.holds;
              given = knows.given;
            })
            (λ seat v else k. k);
      } in (
        w,
        keeps,
        tt,
        subst Rule (λ i. record { words = sym same i; homes = s.homes; views = slice_set s.views id w }) kept,
        ((λ i. (w, me.1)), (let m = own.met in omega arith), omega arith),
      )

  pub looks : (n id : ℕ) (me : Me B (SeatView G E)) → me.0.taken ≡ [] → me.0.root ≡ Some r → Allows Rule n id me 0 (λ y. y) (Looks (step {S = B} n 0 0 0 maybe.none) me)
  looks n id me single rooted s t wide at fits = looked s t n id me single rooted at
