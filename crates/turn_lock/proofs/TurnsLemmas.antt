-- What the rule says of a lock's table between any two steps.
use Rattle.std.proofs.Common.{◌≡◌, ℕ, ◌⊎◌, Bool, true, false, List, slice_index, Option, Some, None, refl, sym, ◌∙◌, ap, inl, inr}
use lib.ListN.{get_elem?}
use Rattle.atomic_table.specs.Table.{State}
use Rattle.turn_lock.specs.declared.view.Claim.{Claim}
use Rattle.turn_lock.specs.declared.view.SeatView.{SeatView}
use Rattle.turn_lock.specs.Turns.{Stands, Knows, Phase, Turns}
use Rattle.turn_lock.specs.SeatViews.{claims_of}
use Rattle.turn_lock.specs.OneHistory.{IsSeat, IsClaim, AtRest, InTurn, OneHistory}
use Rattle.turn_lock.proofs.GrowthLemmas.{Extends-own}
use Rattle.turn_lock.proofs.TableLemmas.{All-at}

module _ {B G E : Type 0} (root_of : B → G) (entries : B → List E) (maker : E → ℕ) (r : G) (passes : ℕ) (s : State B (SeatView G E)) (t : Turns root_of entries maker r passes s) where
  knows_of : (seat : ℕ) (v : SeatView G E) → IsSeat s seat v → Knows maker r t.current t.count t.chief t.seat_of t.holder seat v
  knows_of seat v is = t.knows seat v is.known.0 is.there is.known.1

  stands_of : (seat : ℕ) (claim : Claim E) → IsClaim s seat claim → Stands maker t.count t.seat_of seat t.current claim
  stands_of seat claim is = All-at (Stands maker t.count t.seat_of seat t.current) (claims_of is.view) is.place claim is.there (knows_of seat is.view is.of).claims

  not_held : (b : Bool) → (b ≡ true → ⊥) → b ≡ false
  not_held false no_turn = refl
  not_held true no_turn = absurd (no_turn refl)

  turn_of : (holder : Option ℕ) → t.holder ≡ holder → Phase root_of entries r t.current holder (slice_index s.words 0) (get_elem? s.homes 0)
      → AtRest root_of entries r s t.current ⊎ InTurn s t.current
  turn_of None free p = inl (record {
    word = p.0;
    value = p.1;
    home = p.2;
    list = p.3;
    root = p.4;
    nobody = λ seat v is. not_held v.holds (λ h. let told = ((knows_of seat v is).holds h).0 in cc);
  })
  turn_of (Some seat) told p =
      let has = t.turn seat told in
      let is : IsSeat s seat has.view = record { there = has.there; known = (r, has.root) } in
      inr (record {
        word = p.0;
        out = p.1;
        seat = seat;
        view = has.view;
        is = is;
        holds = has.holds;
        seen = ((knows_of seat has.view is).holds has.holds).1;
        alone = λ other v is_seat h. let other_told = ((knows_of other v is_seat).holds h).0 in let same : Some other ≡ Some seat = sym other_told ∙ told in cc;
      })

  -- the rule implies each part
  pub Turns-one_history : OneHistory root_of entries maker r passes s
  Turns-one_history = record {
    current = t.current;
    count = t.count;
    within = t.within;
    turn = turn_of t.holder refl t.phase;
    root = λ seat v is. (knows_of seat v is).root;
    seen = λ seat claim is. let stands = stands_of seat claim is in record {
      rest = stands.extends.rest;
      prefix = stands.extends.longer;
      met_all = stands.met_all;
      met = stands.met;
      own = Extends-own maker claim.number claim.seen t.current stands.extends;
    };
    given = λ seat claim is. (stands_of seat claim is).given;
    differ = λ seat other claim claim' is is' same. sym (stands_of seat claim is).place ∙ ap t.seat_of same ∙ (stands_of other claim' is').place;
    giver = λ seat v is some. ((knows_of seat v is).given some).1;
    one_giver = λ seat other v w is is' some some'. ((knows_of seat v is).given some).0 ∙ sym ((knows_of other w is').given some').0;
    makers = t.makers;
  }
