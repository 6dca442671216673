-- Each step keeps the rule of published versions.
use Rattle.std.proofs.Common.{◌≡◌, ◌≢◌, ◌≤◌, ℕ, List, [], ◌∷◌, ◌++◌, length, set, fold, Option, Some, None, sym, refl, ap, ◌∙◌, subst, ⊎_elim, arith, length-append}
use Rattle.std.proofs.lemmas.List.Sums.{fold-append}
use mathlib.Core.Option.{some, some-ne-none}
use lib.ListN.{get_elem?}
use Rattle.atomic_table.proofs.Lists.{at_set, at_snoc}
use Rattle.crossbeam_utils.specs.Register.{Admits, TurnsAt, Forks, Merges}
use Rattle.nav_version.specs.declared.version.PublishedVersion.{PublishedVersion}
use Rattle.nav_version.specs.VersionRule.{Enters, GoesOn, IsShown, IsSo, Publishes, Stands, next_of}
use Rattle.nav_version.proofs.Beginnings.{IsPrefix-self, IsPrefix-trans}

-- what is shown goes on from itself
pub GoesOn-self : (shown : PublishedVersion) → GoesOn shown shown
GoesOn-self shown = record { same = refl; begins = IsPrefix-self shown.told.entries }

-- what was so of a version is so of one that goes on from it
still_so : (last next : PublishedVersion) (one : Option PublishedVersion) → GoesOn last next → IsSo last one → IsSo next one
still_so last next None goes so = tt
still_so last next (Some once) goes so =
    record { same = so.same ∙ goes.same; begins = IsPrefix-trans once.told.entries last.told.entries next.told.entries so.begins goes.begins }

-- what any one knows has at most as many entries as what is shown
pub known_at_most : (shown once : PublishedVersion) (known : List (Option PublishedVersion)) (seat : ℕ) → Stands shown known → get_elem? known seat ≡ some (Some once)
    → length once.told.entries ≤ length shown.told.entries
known_at_most shown once known seat stands is =
    let begins = (stands.each seat (Some once) is).begins in
    omega (arith, ap length begins.1, length-append once.told.entries begins.0)

module _ (shown : PublishedVersion) (known : List (Option PublishedVersion)) where
  -- the rule after what one knows was changed
  changed : (seat : ℕ) (one : Option PublishedVersion) → ((j : ℕ) (other : Option PublishedVersion) → get_elem? known j ≡ some other → IsSo shown other) → IsSo shown one
      → (j : ℕ) (other : Option PublishedVersion) → get_elem? (set known seat one) j ≡ some other → IsSo shown other
  changed seat one each so j other is =
      ⊎_elim (λ (t : (j ≡ seat) × (one ≡ other)). subst (IsSo shown) t.1 so) (λ (t : (j ≢ seat) × (get_elem? known j ≡ some other)). each j other t.1)
      (at_set known seat j one other is)

  -- the rule with one more
  added : (one : Option PublishedVersion) → ((j : ℕ) (other : Option PublishedVersion) → get_elem? known j ≡ some other → IsSo shown other) → IsSo shown one
      → (j : ℕ) (other : Option PublishedVersion) → get_elem? (known ++ one ∷ []) j ≡ some other → IsSo shown other
  added one each so j other is = ⊎_elim (each j other) (λ (same : one ≡ other). subst (IsSo shown) same so) (at_snoc known one other j is)

-- the first version
pub opens : (shown : PublishedVersion) → IsShown shown → Stands shown (None ∷ [])
opens shown is' = record { is = is'; each = added shown [] None (λ j other is. absurd (some-ne-none other (sym is))) tt }

-- a new reader, which knows nothing
pub admits : Admits Stands None
admits shown known stands = record { is = stands.is; each = added shown known None stands.each tt }

-- publish
pub publishes : (seat : ℕ) (one : Option PublishedVersion) (last next : PublishedVersion) → GoesOn last next → IsShown next → TurnsAt Stands seat one last next Publishes
publishes seat one last next goes is' known stands at_seat = (
  Some next,
  record { is = is'; each = changed next known seat (Some next) (λ j other is. still_so last next other goes (stands.each j other is)) (GoesOn-self next) },
  refl,
)

-- what is shown once all that was pending is shown, is what was to be shown last
pub shows_last : (shown next now : PublishedVersion) (pending before : List PublishedVersion) → now ≡ fold next_of shown pending → pending ≡ before ++ next ∷ [] → now ≡ next
shows_last shown next now pending before is all = is ∙ ap (fold next_of shown) all ∙ fold-append next_of shown before (next ∷ [])

-- it is shown then, and known
pub has_shown : (last next now : PublishedVersion) (after : Option PublishedVersion) (pending before : List PublishedVersion) → now ≡ fold next_of last pending → pending ≡ before ++ next ∷ []
    → after ≡ Some now → (now ≡ next) × (after ≡ Some next)
has_shown last next now after pending before is all known =
    let same : now ≡ next = shows_last last next now pending before is all in
    (same, known ∙ ap Some same)

pub publishes_last : (seat : ℕ) (one : Option PublishedVersion) (last next now : PublishedVersion) (pending before : List PublishedVersion) → now ≡ fold next_of last pending → pending ≡ before ++ next ∷ []
    → GoesOn last next → IsShown next → TurnsAt Stands seat one last now Publishes
publishes_last seat one last next now pending before is all goes is' =
    let now_is : now ≡ next = shows_last last next now pending before is all in
    publishes seat one last now (subst (GoesOn last) (sym now_is) goes) (subst IsShown (sym now_is) is')

-- enter
pub enters : (seat : ℕ) (one : Option PublishedVersion) (shown : PublishedVersion) → TurnsAt Stands seat one shown shown Enters
enters seat one shown known stands at_seat = (
  Some shown,
  record { is = stands.is; each = changed shown known seat (Some shown) stands.each (GoesOn-self shown) },
  record { is = stands.is; so = stands.each seat one at_seat; knows = refl },
)

-- tell
pub tells : (seat : ℕ) (one : Option PublishedVersion) → Forks Stands seat one one one
tells seat one shown known stands at_seat =
    let so = stands.each seat one at_seat in
    record { is = stands.is; each = added shown (set known seat one) one (changed shown known seat one stands.each so) so }

-- learn
pub learns : (seat : ℕ) (own : Option PublishedVersion) (other : ℕ) (told : Option PublishedVersion) → Merges Stands seat own other told told None
learns seat own other told shown known stands at_seat apart at_other =
    let told_so : IsSo shown told = ⊎_elim (λ (t : (other ≡ seat) × (told ≡ told)). absurd (apart t.0))
    (λ (t : (other ≢ seat) × (get_elem? known other ≡ some told)). stands.each other told t.1) (at_set known seat other told told at_other) in
    record { is = stands.is; each = changed shown (set known seat told) other None (changed shown known seat told stands.each told_so) tt }
