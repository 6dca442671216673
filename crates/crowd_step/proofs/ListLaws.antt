-- Lists: what adding the list of one agent after the other comes to.
use Rattle.std.proofs.Common.{◌≡◌, ℕ, ◌+◌, ◌<◌, ◌≤◌, List, [], ◌∷◌, ◌++◌, length, refl, sym, subst, ap, ◌∙◌, inl, inr, arith, length-append}
use Rattle.std.specs.Prelude.{slice_get, Some}
use Rattle.std.proofs.lemmas.Bool.{cases_lt}
use Rattle.std.proofs.lemmas.List.{get_or_append_left, get_or-append-add}
use Rattle.std.proofs.lemmas.Option.{slice_get_within, same_Some}
use Rattle.nav_base.specs.declared.point.Point.{Point}
use Rattle.crowd_moves.specs.declared.agents.CrowdAgent.{CrowdAgent}
use Rattle.crowd_moves.specs.Contacts.{begin_at, IsIn}
use Rattle.crowd_moves.proofs.Elements.{slice_get_front, slice_get_last}
use Rattle.crowd_step.specs.declared.steering.Thought.{Thought}
use Rattle.crowd_step.specs.declared.steering.Steering.{Steering}
use Rattle.crowd_step.specs.Lists.{AddsList, AreListed, Extends}
use Rattle.crowd_step.specs.Steered.{SeesNobody}

pub extends_none : (old : List Point) → Extends old old
extends_none old = record { longer = omega arith; kept = λ k within. refl }

pub extends_push : (old mid new : List Point) (by : Point) → Extends old mid → new ≡ mid ++ by ∷ [] → Extends old new
extends_push old mid new by extends is = subst (Extends old) (sym is) (record {
  longer = omega (arith, extends.longer, length-append mid (by ∷ []));
  kept = λ k within. slice_get_front mid by k (omega (arith, within, extends.longer)) ∙ extends.kept k within;
})

module _ (sight : ℕ) (agents : List CrowdAgent) (steering : List Steering) where
  -- the wish of one alone
  pub adds_wish : (i : ℕ) (own : Steering) (old new : List Point) → slice_get steering i ≡ Some own → new ≡ old ++ own.wish ∷ []
      → AddsList sight agents steering i old new
  adds_wish i own old new is_own is = record {
    extends = extends_push old old new own.wish (extends_none old) is;
    lone = λ other is_other sees.
        subst (λ (xs : List Point). slice_get xs (length old) ≡ Some other.wish) (sym is)
        (slice_get_last old own.wish ∙ ap (λ (s : Steering). Some s.wish) (same_Some own other (sym is_own ∙ is_other)));
  }

  -- any list of one that sees others
  pub adds_tried : (i : ℕ) (old new : List Point) → (SeesNobody sight agents i → ⊥) → Extends old new → AddsList sight agents steering i old new
  adds_tried i old new others extends = record { extends = extends; lone = λ own is_own sees. absurd (others sees) }

  pub listed_none : (first : List ℕ) (vectors : List Point) → first ≡ 0 ∷ [] → vectors ≡ [] → AreListed sight agents steering first vectors 0
  listed_none first vectors is_first is_vectors =
      subst (λ (xs : List ℕ). AreListed sight agents steering xs vectors 0) (sym is_first)
      (subst (λ (ys : List Point). AreListed sight agents steering (0 ∷ []) ys 0) (sym is_vectors) (record {
        one_more = refl;
        last = refl;
        lone = λ i own none is sees. absurd (omega (arith, none));
      }))

  module _ (first : List ℕ) (vectors : List Point) (count : ℕ) (new : List Point) (before : AreListed sight agents steering first vectors count)
      (adds : AddsList sight agents steering count vectors new) where
    abbrev after : List ℕ
    after = first ++ length new ∷ []

    begin_same : (i : ℕ) → i ≤ count → begin_at after i ≡ begin_at first i
    begin_same i within = get_or_append_left first (length new ∷ []) 0 i (omega (arith, within, before.one_more))

    begin_last : begin_at after (count + 1) ≡ length new
    begin_last = subst (λ (n : ℕ). begin_at (first ++ length new ∷ []) n ≡ length new) (place before.one_more) (get_or-append-add first (length new ∷ []) 0 0)
      where
        place : length first ≡ count + 1 → length first + 0 ≡ count + 1
        place is = omega (arith, is)

    -- what was listed is as it was
    listed_before : (i : ℕ) (own : Steering) → i < count → slice_get steering i ≡ Some own → SeesNobody sight agents i
        → IsIn after new i (begin_at after i) own.wish
    listed_before i own inside is sees =
        let had = before.lone i own inside is sees in
        let at = begin_same i (omega (arith, inside)) in
        record {
          from = omega arith;
          below = omega (arith, at, begin_same (i + 1) (omega (arith, inside)), had.below, adds.extends.longer);
          is =
              subst (λ (n : ℕ). slice_get new n ≡ Some own.wish) (sym at)
              (adds.extends.kept (begin_at first i) (slice_get_within vectors (begin_at first i) own.wish had.is) ∙ had.is);
        }

    listed_last : (own : Steering) → slice_get steering count ≡ Some own → SeesNobody sight agents count → IsIn after new count (begin_at after count) own.wish
    listed_last own is sees =
        let at : begin_at after count ≡ length vectors = begin_same count (omega arith) ∙ before.last in
        let head = adds.lone own is sees in
        record {
          from = omega arith;
          below = omega (arith, at, begin_last, slice_get_within new (length vectors) own.wish head);
          is = subst (λ (n : ℕ). slice_get new n ≡ Some own.wish) (sym at) head;
        }

    listed_more : AreListed sight agents steering after new (count + 1)
    listed_more = record {
      one_more = more before.one_more;
      last = begin_last;
      lone = λ i own within is sees. elim (cases_lt i count) [
        | inl inside ↦ listed_before i own inside is sees
        | inr most ↦
            let here : i ≡ count = omega (arith, within, most) in
            subst (λ (n : ℕ). IsIn after new n (begin_at after n) own.wish) (sym here)
            (listed_last own (subst (λ (n : ℕ). slice_get steering n ≡ Some own) here is) (subst (SeesNobody sight agents) here sees))
      ];
    }
      where
        more : length first ≡ count + 1 → length after ≡ count + 1 + 1
        more is = omega (arith, is, length-append first (length new ∷ []))

  -- the same of a list to which the number was added
  pub listed_on : (first : List ℕ) (vectors : List Point) (count : ℕ) (new : List Point) (longer : List ℕ) (many : ℕ)
      → AreListed sight agents steering first vectors count → AddsList sight agents steering count vectors new → many ≡ length new
      → longer ≡ first ++ many ∷ [] → AreListed sight agents steering longer new (count + 1)
  listed_on first vectors count new longer many before adds is_many is_longer =
      subst (λ (xs : List ℕ). AreListed sight agents steering xs new (count + 1)) (sym (is_longer ∙ ap (λ (n : ℕ). first ++ n ∷ []) is_many))
      (listed_more first vectors count new before adds)

-- the agents so far have their lists and thoughts
pub record AreListedSo (sight : ℕ) (agents : List CrowdAgent) (steering : List Steering) (first : List ℕ) (vectors : List Point) (thoughts : List Thought) (count : ℕ) : Type 0 where
  pub listed : AreListed sight agents steering first vectors count
  pub many : length thoughts ≡ count

pub more_thoughts : (thoughts longer : List Thought) (thought : Thought) (count : ℕ) → length thoughts ≡ count → longer ≡ thoughts ++ thought ∷ []
    → length longer ≡ count + 1
more_thoughts thoughts longer thought count many is =
    subst (λ (xs : List Thought). length xs ≡ count + 1) (sym is) (omega (arith, many, length-append thoughts (thought ∷ [])))
