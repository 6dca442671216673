-- Turns: what one agent's turn does, and what the turns of many come to.
use Rattle.std.proofs.Common.{◌≡◌, ℕ, ◌+◌, ◌<◌, ◌≤◌, Bool, true, false, List, length, set, get_or, refl, sym, subst, ap, ◌∙◌, inl, inr, arith}
use Rattle.std.specs.Prelude.{◌||◌, ◌⊎◌, slice_get, Some}
use Rattle.std.proofs.lemmas.Bool.{cases_lt, false≢true}
use Rattle.std.proofs.lemmas.Option.{slice_get_within, slice_get-get_or, get_or_from_slice_get, same_Some}
use Rattle.nav_base.specs.declared.point.Point.{Point}
use Rattle.crowd_moves.specs.declared.agents.CrowdAgent.{CrowdAgent}
use Rattle.crowd_moves.specs.declared.agents.CrowdMove.{CrowdMove}
use Rattle.crowd_moves.specs.Contacts.{begin_at, end_at}
use Rattle.crowd_moves.specs.Pairs.{HasSizes, IsSlowVector}
use Rattle.crowd_moves.specs.Steps.{MayMove, MayMoveAt, IsFree, AreMovers, AreMoves, IsAlone}
use Rattle.crowd_moves.specs.Wishes.{MayGo, IsOffered, IsOpen, IsNoneIn, IsFirstWish, HasFirst, IsWished, AreWished, DoLoneGo, AreSettled, IsTurn, AreTurns, AreGranted}
use Rattle.crowd_moves.proofs.Elements.{slice_get-set_other}
use Rattle.crowd_moves.proofs.StepLaws.{as_movers, granted, lone_free, no_move, same_or_other, there_now, there_still}

-- no vector up to a place, nor the one there
pub none_more : (P : Point → Type 0) (first : List ℕ) (vectors : List Point) (i k : ℕ) (d : Point) → IsNoneIn P first vectors i k → (P (get_or vectors k d) → ⊥)
    → IsNoneIn P first vectors i (k + 1)
none_more P first vectors i k d none last = λ l other from below is holds. elim (cases_lt l k) [
  | inl less ↦ none l other from less is holds
  | inr most ↦
      let same : l ≡ k = omega (arith, below, most) in
      last (subst P (sym (get_or_from_slice_get vectors k other d (subst (λ (n : ℕ). slice_get vectors n ≡ Some other) same is))) holds)
]

module _ (lets : CrowdAgent → CrowdMove → Type 0) (height : ℕ) (agents : List CrowdAgent) where
  -- ---- which vectors are open

  may_go : (moves : List CrowdMove) (i : ℕ) (a : CrowdAgent) (by : Point) → slice_get agents i ≡ Some a → IsOpen lets height agents moves i by → MayGo lets a by
  may_go moves i a by is_a at_hand = record { made = at_hand.made; is = at_hand.offered.is; may = at_hand.offered.may a is_a }

  lone_open : (moves : List CrowdMove) (i : ℕ) (a : CrowdAgent) (by : Point) → AreMovers agents moves → slice_get agents i ≡ Some a → IsAlone agents i
      → MayGo lets a by → IsOpen lets height agents moves i by
  lone_open moves i a by movers is_a alone go = record {
    made = go.made;
    offered = record { is = go.is; may = may; free = lone_free height agents moves i go.made movers (λ b is_b. (may b is_b).mover) alone };
  }
    where
      may : MayMoveAt lets agents i go.made
      may b is_b = subst (λ (x : CrowdAgent). MayMove lets x go.made) (same_Some a b (sym is_a ∙ is_b)) go.may

  lone_first : (first : List ℕ) (vectors : List Point) (old new : List CrowdMove) (i : ℕ) (a : CrowdAgent) → AreMoves lets height agents old
      → slice_get agents i ≡ Some a → IsAlone agents i → HasFirst (IsOpen lets height agents old i) first vectors new i → HasFirst (MayGo lets a) first vectors new i
  lone_first first vectors old new i a right is_a alone has = λ k by m wish is_m.
      has k by m (record {
        listed = wish.listed;
        holds = lone_open old i a by (as_movers lets height agents old right) is_a alone wish.holds;
        none_before = λ l other from below is_other at_hand. wish.none_before l other from below is_other (may_go old i a other is_a at_hand);
      }) is_m

  -- ---- what is offered

  pub sized_at : (moves : List CrowdMove) (i : ℕ) (d : CrowdAgent) → AreMoves lets height agents moves → i < length agents → HasSizes (get_or agents i d)
  sized_at moves i d right there =
      (right.may i (get_or moves i no_move) (slice_get-get_or moves i no_move (omega (arith, there, right.one_each))) (get_or agents i d)
      (slice_get-get_or agents i d there)).mover.sizes

  -- the move that it has
  pub has_offered : (moves : List CrowdMove) (i : ℕ) (by : Point) (d : CrowdMove) → AreMoves lets height agents moves → i < length agents
      → (get_or moves i d).by ≡ by → IsOffered lets height agents moves i by (get_or moves i d)
  has_offered moves i by d right there is =
      let is_m = slice_get-get_or moves i d (omega (arith, there, right.one_each)) in
      record { is = is; may = right.may i (get_or moves i d) is_m; free = right.clear i (get_or moves i d) is_m }

  module _ (moves : List CrowdMove) (i : ℕ) (by : Point) (d : CrowdAgent) (there : i < length agents) where
    own : slice_get agents i ≡ Some (get_or agents i d)
    own = slice_get-get_or agents i d there

    pub too_fast : (IsSlowVector (get_or agents i d) by → ⊥) → IsOpen lets height agents moves i by → ⊥
    too_fast fast at_hand =
        fast (subst (IsSlowVector (get_or agents i d)) at_hand.offered.is (at_hand.offered.may (get_or agents i d) own).mover.slow)

    pub no_way_open : ((made : CrowdMove) → made.by ≡ by → lets (get_or agents i d) made → ⊥) → IsOpen lets height agents moves i by → ⊥
    no_way_open none at_hand = none at_hand.made at_hand.offered.is (at_hand.offered.may (get_or agents i d) own).way

    pub may_at : (made : CrowdMove) → HasSizes (get_or agents i d) → IsSlowVector (get_or agents i d) by → made.by ≡ by → lets (get_or agents i d) made
        → MayMoveAt lets agents i made
    may_at made sizes slow is lent a is_a =
        subst (λ (x : CrowdAgent). MayMove lets x made) (same_Some (get_or agents i d) a (sym own ∙ is_a)) (record {
          mover = record { sizes = sizes; slow = subst (IsSlowVector (get_or agents i d)) (sym is) slow };
          way = lent;
        })

    pub not_free : (made : CrowdMove) → ((other : CrowdMove) → other.by ≡ by → lets (get_or agents i d) other → other ≡ made)
        → (IsFree height agents moves i made → ⊥) → IsOpen lets height agents moves i by → ⊥
    not_free made one taken at_hand =
        taken (subst (IsFree height agents moves i) (one at_hand.made at_hand.offered.is (at_hand.offered.may (get_or agents i d) own).way) at_hand.offered.free)

  -- ---- one turn

  module _ (first : List ℕ) (vectors : List Point) (old : List CrowdMove) (i : ℕ) (right : AreMoves lets height agents old) where
    pub no_turn : (end : ℕ) → end_at first i (length vectors) ≤ end → IsNoneIn (IsOpen lets height agents old i) first vectors i end
        → IsTurn lets height agents first vectors old i false old
    no_turn end all none = record {
      right = right;
      wished = λ j m is. inl is;
      has_first = λ k by m wish is.
          absurd (none k by wish.listed.from (omega (arith, all, wish.listed.below)) wish.listed.is wish.holds);
      others = λ j other. refl;
      same = λ none. refl;
    }

    -- the place at which the first open vector was found
    pub record IsFoundAt (k : ℕ) (by : Point) (made : CrowdMove) : Type 0 where
      pub from : begin_at first i ≤ k
      pub below : k < end_at first i (length vectors)
      pub is : slice_get vectors k ≡ Some by
      pub none : IsNoneIn (IsOpen lets height agents old i) first vectors i k
      pub offered : IsOffered lets height agents old i by made

    first_is : (k : ℕ) (by : Point) (made : CrowdMove) → IsFoundAt k by made → (k' : ℕ) (by' : Point)
        → IsFirstWish (IsOpen lets height agents old i) first vectors i k' by' → made.by ≡ by'
    first_is k by made found k' by' wish =
        found.offered.is
        ∙ elim (cases_lt k' k) [
          | inl less ↦ absurd (found.none k' by' wish.listed.from less wish.listed.is wish.holds)
          | inr most ↦ elim (cases_lt k k') [
            | inl more ↦ absurd (wish.none_before k by found.from more found.is (record { made = made; offered = found.offered }))
            | inr least ↦
                let same : k ≡ k' = omega (arith, most, least) in
                same_Some by by' (sym (subst (λ (n : ℕ). slice_get vectors n ≡ Some by) same found.is) ∙ wish.listed.is)
          ]
        ]

    pub kept_turn : (k : ℕ) (by : Point) (made had : CrowdMove) → IsFoundAt k by made → slice_get old i ≡ Some had → made.by ≡ had.by
        → IsTurn lets height agents first vectors old i false old
    kept_turn k by made had found is_had same = record {
      right = right;
      wished = λ j m is. inl is;
      has_first = λ k' by' m wish is.
          ap (λ (x : CrowdMove). x.by) (same_Some m had (sym is ∙ is_had)) ∙ sym same ∙ first_is k by made found k' by' wish;
      others = λ j other. refl;
      same = λ none. refl;
    }

    pub gained_turn : (k : ℕ) (by : Point) (made : CrowdMove) → IsFoundAt k by made → i < length agents
        → IsTurn lets height agents first vectors old i true (set old i made)
    gained_turn k by made found there = record {
      right = granted lets height agents old i made right there found.offered.may found.offered.free;
      wished = λ j m is. same_or_other ((slice_get old j ≡ Some m) ⊎ IsWished first vectors j m.by) j i
          (λ same. inr (subst (λ (n : ℕ). IsWished first vectors n m.by) (sym same) (record {
            place = k;
            listed = record { from = found.from; below = found.below; is = found.is ∙ ap Some (sym found.offered.is ∙ ap (λ (x : CrowdMove). x.by) (sym (now j m same is))) };
          })))
          (λ other. inl (there_still old i j made m other is));
      has_first = λ k' by' m wish is. ap (λ (x : CrowdMove). x.by) (now i m refl is) ∙ first_is k by made found k' by' wish;
      others = λ j other. slice_get-set_other old i j made other;
      same = λ none. absurd (false≢true (sym none));
    }
      where
        now : (j : ℕ) (m : CrowdMove) → j ≡ i → slice_get (set old i made) j ≡ Some m → m ≡ made
        now j m same is =
            there_now old i made m (omega (arith, there, right.one_each)) (subst (λ (p : ℕ). slice_get (set old i made) p ≡ Some m) same is)

  -- ---- the turns of many

  module _ (order first : List ℕ) (vectors : List Point) where
    wished_on : (old mid new : List CrowdMove) → AreWished first vectors old mid → AreWished first vectors mid new → AreWished first vectors old new
    wished_on old mid new before after = λ j m is. elim (after j m is) [ inl kept ↦ before j m kept | inr wished ↦ inr wished ]

    pub no_turns : (old : List CrowdMove) → AreMoves lets height agents old → AreTurns lets height agents order first vectors old 0 false old
    no_turns old right = record {
      right = right;
      wished = λ j m is. inl is;
      lone = λ q i a below is_q is_a alone. absurd (omega (arith, below));
      same = λ none. refl;
      settled = λ none q i below is there. absurd (omega (arith, below));
    }

    second_no : (x y : Bool) → (x || y) ≡ false → y ≡ false
    second_no true y is = absurd (false≢true (sym is))
    second_no false y is = is

    first_no : (x y : Bool) → (x || y) ≡ false → x ≡ false
    first_no true y is = is
    first_no false y is = refl

    -- who comes last in an order, up to a place
    at_last : (q p i j : ℕ) → p < q + 1 → slice_get order p ≡ Some j → slice_get order q ≡ Some i → (j ≡ i → ⊥) → p < q
    at_last q p i j below is_p is_q other = elim (cases_lt p q) [
      | inl less ↦ less
      | inr most ↦
          let same : p ≡ q = omega (arith, below, most) in
          absurd (other (same_Some j i (sym (subst (λ (n : ℕ). slice_get order n ≡ Some j) same is_p) ∙ is_q)))
    ]

    pub next_turn : (old mid new : List CrowdMove) (q i : ℕ) (g h : Bool) → AreTurns lets height agents order first vectors old q g mid
        → slice_get order q ≡ Some i → IsTurn lets height agents first vectors mid i h new → AreTurns lets height agents order first vectors old (q + 1) (g || h) new
    next_turn old mid new q i g h before is_q turn = record {
      right = turn.right;
      wished = wished_on old mid new before.wished turn.wished;
      lone = λ p j a below is_p is_a alone. same_or_other (HasFirst (MayGo lets a) first vectors new j) j i
          (λ same. lone_first first vectors mid new j a before.right is_a alone
          (subst (λ (n : ℕ). HasFirst (IsOpen lets height agents mid n) first vectors new n) (sym same) turn.has_first))
          (λ other k by m wish is_m. before.lone p j a (at_last q p i j below is_p is_q other) is_p is_a alone k by m wish (sym (turn.others j other) ∙ is_m));
      same = same;
      settled = λ none p j below is_p there. same_or_other (HasFirst (IsOpen lets height agents old j) first vectors old j) j i
          (λ is. subst (λ (moves : List CrowdMove). HasFirst (IsOpen lets height agents moves j) first vectors old j) (before.same (first_no g h none))
          (subst (λ (moves : List CrowdMove). HasFirst (IsOpen lets height agents mid j) first vectors moves j) (same none)
          (subst (λ (n : ℕ). HasFirst (IsOpen lets height agents mid n) first vectors new n) (sym is) turn.has_first)))
          (λ other. before.settled (first_no g h none) p j (at_last q p i j below is_p is_q other) is_p there);
    }
      where
        same : (g || h) ≡ false → new ≡ old
        same none = turn.same (second_no g h none) ∙ before.same (first_no g h none)

    -- an agent that is not there has no turn
    pub skipped_turn : (old mid : List CrowdMove) (q i : ℕ) (g : Bool) → AreTurns lets height agents order first vectors old q g mid
        → slice_get order q ≡ Some i → length agents ≤ i → AreTurns lets height agents order first vectors old (q + 1) g mid
    skipped_turn old mid q i g before is_q past = record {
      right = before.right;
      wished = before.wished;
      lone = λ p j a below is_p is_a alone.
          before.lone p j a (at_last q p i j below is_p is_q (λ same. omega (arith, same, past, slice_get_within agents j a is_a))) is_p is_a alone;
      same = before.same;
      settled = λ none p j below is_p there. before.settled none p j (at_last q p i j below is_p is_q (λ same. omega (arith, same, past, there))) is_p there;
    }

    -- ---- rounds

    -- what holds after some rounds
    pub record IsAfterRounds (old : List CrowdMove) (count : ℕ) (new : List CrowdMove) : Type 0 where
      pub right : AreMoves lets height agents new
      pub wished : AreWished first vectors old new
      pub lone : 0 < count → DoLoneGo lets agents order first vectors new (length order)

    pub before_rounds : (old : List CrowdMove) → AreMoves lets height agents old → IsAfterRounds old 0 old
    before_rounds old right = record { right = right; wished = λ j m is. inl is; lone = λ some. absurd (omega (arith, some)) }

    pub round_more : (old mid new : List CrowdMove) (count : ℕ) (g : Bool) → IsAfterRounds old count mid
        → AreTurns lets height agents order first vectors mid (length order) g new → IsAfterRounds old (count + 1) new
    round_more old mid new count g before turns = record {
      right = turns.right;
      wished = wished_on old mid new before.wished turns.wished;
      lone = λ some. turns.lone;
    }

    pub settles : (old mid new : List CrowdMove) (count : ℕ) → IsAfterRounds old count mid
        → AreTurns lets height agents order first vectors mid (length order) false new → AreGranted lets height agents order first vectors old true new
    settles old mid new count before turns = record {
      right = turns.right;
      wished = wished_on old mid new before.wished turns.wished;
      lone = turns.lone;
      settled = λ is. subst (λ (moves : List CrowdMove). AreSettled lets height agents order first vectors moves (length order)) (sym (turns.same refl)) (turns.settled refl);
    }

    pub rounds_end : (old new : List CrowdMove) (count : ℕ) → IsAfterRounds old count new → 0 < count → AreGranted lets height agents order first vectors old false new
    rounds_end old new count after some = record {
      right = after.right;
      wished = after.wished;
      lone = after.lone some;
      settled = λ is. absurd (false≢true is);
    }
