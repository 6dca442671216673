-- Where the walk over turns comes to.
use Rattle.std.proofs.Common.{◌≡◌, ℕ, ◌+◌, ◌-◌, ◌<◌, ◌≤◌, max, Bool, true, false, zero, suc, List, [], ◌∷◌, length, drop, refl, sym, ap, subst, ◌∙◌, inl, inr, arith}
use Rattle.std.specs.Prelude.{All, if◌then◌else◌, nat_le, slice_get, slice_index_or, Some, None}
use Rattle.std.proofs.lemmas.Bool.{cases_Bool, cases_lt, leb-false, leb-true}
use Rattle.std.proofs.lemmas.List.{drop_more}
use Rattle.std.proofs.lemmas.List.Elements.{All-head, All-tail}
use Rattle.std.proofs.lemmas.Option.{get_or_from_slice_get, slice_get-get_or, slice_get_within}
use Rattle.nav_base.specs.declared.point.Point.{Point}
use Rattle.nav_base.specs.Point.{HasCoordinates}
use Rattle.mesh_types.specs.declared.answers.Corner.{Corner}
use Rattle.mesh_types.specs.Bends.{some_corner}
use Rattle.surface_move.specs.Moves.{leg_of}
use Rattle.agent_walks.specs.Marches.{Stand, over_corners}
use Rattle.path_follow.specs.declared.following.Following.{Following}
use Rattle.path_follow.specs.declared.lines.NextPoint.{NextPoint}
use Rattle.path_follow.specs.declared.lines.Standing.{Standing}
use Rattle.path_follow.specs.Following.{CanFollow, IsTurnOf, next_on, standing_on, upto_on}
use Rattle.path_follow.specs.Lines.{IsNext, IsShort, IsStanding, stand_of}

-- ---- one turn passed, or not

pub is-reached : (a b : ℕ) → a ≤ b → nat_le a b ≡ true
is-reached a b h = elim (cases_Bool (nat_le a b)) [ inl less ↦ less | inr more ↦ absurd (omega (arith, leb-false a b more, h)) ]

pub is-beyond : (a b : ℕ) → b < a → nat_le a b ≡ false
is-beyond a b h = elim (cases_Bool (nat_le a b)) [ inl less ↦ absurd (omega (arith, leb-true a b less, h)) | inr more ↦ more ]

pub passes : (point : Point) (place budget : ℕ) (turn : Corner) (more : List Corner) → leg_of point turn.at ≤ budget
    → over_corners point place budget (turn ∷ more) ≡ over_corners turn.at (max place (turn.portal + 1)) (budget - leg_of point turn.at) more
passes point place budget turn more reached =
    ap (λ (b : Bool). if b then over_corners turn.at (max place (turn.portal + 1)) (budget - leg_of point turn.at) more
    else record { point = point; place = place; budget = budget; left = turn ∷ more }) (is-reached (leg_of point turn.at) budget reached)

pub stays : (point : Point) (place budget : ℕ) (turn : Corner) (more : List Corner) → budget < leg_of point turn.at
    → over_corners point place budget (turn ∷ more) ≡ record { point = point; place = place; budget = budget; left = turn ∷ more }
stays point place budget turn more beyond =
    ap (λ (b : Bool). if b then over_corners turn.at (max place (turn.portal + 1)) (budget - leg_of point turn.at) more
    else record { point = point; place = place; budget = budget; left = turn ∷ more }) (is-beyond (leg_of point turn.at) budget beyond)

-- ---- the whole walk

-- a stand at coordinates, within a path of so many links
record IsInside (count : ℕ) (stand : Stand) : Type 0 where
  at : HasCoordinates stand.point
  within : stand.place ≤ count
  turns : All (IsTurnOf count) stand.left

over-inside : (count : ℕ) (point : Point) (place budget : ℕ) (turns : List Corner) → HasCoordinates point → place ≤ count → All (IsTurnOf count) turns
    → IsInside count (over_corners point place budget turns)
over-inside count point place budget [] at within are = record { at = at; within = within; turns = are }
over-inside count point place budget (turn ∷ more) at within are =
    elim (cases_Bool (nat_le (leg_of point turn.at) budget)) [
      | inl less ↦
          let one = All-head (IsTurnOf count) turn more are in
          subst (IsInside count) (sym (passes point place budget turn more (leb-true (leg_of point turn.at) budget less)))
          (over-inside count turn.at (max place (turn.portal + 1)) (budget - leg_of point turn.at) more one.at (omega (arith, within, one.names))
          (All-tail (IsTurnOf count) turn more are))
      | inr beyond ↦
          let far : budget < leg_of point turn.at = omega (arith, leb-false (leg_of point turn.at) budget beyond) in
          subst (IsInside count) (sym (stays point place budget turn more far)) (record { at = at; within = within; turns = are })
    ]

drop-all : (turns : List Corner) (n : ℕ) → length turns ≤ n → drop n turns ≡ []
drop-all [] zero all = refl
drop-all [] (suc n) all = refl
drop-all (turn ∷ more) zero all = absurd (omega (arith, all))
drop-all (turn ∷ more) (suc n) all = drop-all more n (omega (arith, all))

past-end : (turns : List Corner) (n : ℕ) → slice_get turns n ≡ None → length turns ≤ n
past-end turns n none =
    elim (cases_lt n (length turns)) [
      | inl below ↦ absurd (some-none _ (sym (slice_get-get_or turns n some_corner below) ∙ none))
      | inr all ↦ all
    ]
  where
    some-none : (turn : Corner) → Some turn ≡ None → ⊥
    some-none turn e = cc

module _ (f : Following) (can : CanFollow f) where
  -- the walk over the turns, raised to the links that are behind
  pub standing-is : (walked standing : Standing) → over_corners f.from 0 f.far f.turns ≡ stand_of f.turns walked → IsShort f.turns walked
      → standing ≡ record walked { place = max walked.place f.link } → IsStanding f standing
  standing-is walked standing is short raised =
      let inside = subst (IsInside (length f.links)) is (over-inside (length f.links) f.from 0 f.far f.turns can.from (omega arith) can.turns) in
      subst (IsStanding f) (sym raised) (record {
        is = ap (λ (s : Stand). record s { place = max s.place f.link }) (sym is);
        short = short;
        at = inside.at;
        within = omega (arith, inside.within, can.behind);
      })

  module _ (standing : Standing) (stands : IsStanding f standing) where
    abbrev left : List Corner
    left = drop standing.passed f.turns

    left-is : left ≡ (standing_on f).left
    left-is = ap (λ (s : Stand). s.left) stands.is

    place-is : standing.place ≡ (standing_on f).place
    place-is = ap (λ (s : Stand). s.place) stands.is

    left-none : length f.turns ≤ standing.passed → left ≡ []
    left-none all = drop-all f.turns standing.passed all

    -- before a turn
    pub next-turn : (turn : Corner) (next : NextPoint) → slice_get f.turns standing.passed ≡ Some turn
        → next ≡ record { point = turn.at; upto = max standing.place turn.portal } → IsNext f standing next
    next-turn turn next there is =
        let below = slice_get_within f.turns standing.passed turn there in
        let named = subst (IsTurnOf (length f.links)) (get_or_from_slice_get f.turns standing.passed turn turn there) (can.turns standing.passed turn below) in
        let one : left ≡ turn ∷ drop (standing.passed + 1) f.turns =
        drop_more f.turns standing.passed turn below
        ∙ ap (λ (t : Corner). t ∷ drop (standing.passed + 1) f.turns) (get_or_from_slice_get f.turns standing.passed turn turn there) in
        subst (IsNext f standing) (sym is) (record {
          point = sym (ap (next_on f.goal) (sym left-is ∙ one));
          upto = sym (ap (upto_on (length f.links) (standing_on f).place) (sym left-is ∙ one) ∙ ap (λ (n : ℕ). max n turn.portal) (sym place-is));
          at = named.at;
          onward = omega arith;
          within = omega (arith, stands.within, named.names);
        })

    -- past all turns
    pub next-goal : (next : NextPoint) → slice_get f.turns standing.passed ≡ None → next ≡ record { point = f.goal; upto = length f.links } → IsNext f standing next
    next-goal next past is =
        let none = left-none (past-end f.turns standing.passed past) in
        subst (IsNext f standing) (sym is) (record {
          point = sym (ap (next_on f.goal) (sym left-is ∙ none));
          upto = sym (ap (upto_on (length f.links) (standing_on f).place) (sym left-is ∙ none));
          at = can.goal;
          onward = stands.within;
          within = omega arith;
        })

    -- where the length reaches what it makes for, no turn is left
    pub none-left : (next : NextPoint) → IsNext f standing next → leg_of standing.point next.point ≤ standing.budget → (standing_on f).left ≡ []
    none-left next is reached =
        elim (cases_lt standing.passed (length f.turns)) [
          | inl below ↦
              let turn = slice_index_or f.turns standing.passed some_corner in
              let one : left ≡ turn ∷ drop (standing.passed + 1) f.turns = drop_more f.turns standing.passed some_corner below in
              let point : next.point ≡ turn.at = is.point ∙ ap (next_on f.goal) (sym left-is ∙ one) in
              let far = stands.short below in
              absurd (omega (arith, far, reached, ap (leg_of standing.point) point))
          | inr all ↦ sym left-is ∙ left-none all
        ]
