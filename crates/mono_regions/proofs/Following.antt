-- Chains of strips, each joined to the next: they rise, end, and make regions.
use Rattle.std.proofs.Common.{◌≡◌, ℕ, ◌+◌, ◌-◌, ◌<◌, ◌≤◌, length, List, [], ◌∷◌, ◌++◌, map, ap, ◌∙◌, sym, refl, subst, arith, zero, suc, Option, Some, None}
use Rattle.std.specs.Option.{option_map_or}
use Rattle.std.proofs.lemmas.List.{append_assoc, append-nil}
use Rattle.nav_ground.specs.declared.cell.Cell.{Cell}
use Rattle.nav_ground.specs.Cells.{IsCut}
use Rattle.mesh_types.specs.declared.region.Strip.{Strip}
use Rattle.mesh_types.specs.declared.region.Region.{Region}
use Rattle.mesh_types.specs.StripPolygons.{strip_runs}
use Rattle.mesh_types.specs.Regions.{chain_from, region_of}
use Rattle.mono_regions.specs.Joining.{joined_from}
use Rattle.mono_regions.proofs.JoinLaws.{joined_back, same_number}
use Rattle.mono_regions.proofs.Upon.{strip_number, after}

-- what a strip joins comes after it
joined_after : (cells : List Cell) → IsCut cells → (s t : ℕ) → s < length (strip_runs cells) → joined_from (strip_runs cells) s ≡ Some t → s < t
joined_after cells cut s t here is =
    let joined = joined_back cells s t is in
    after cells cut s t here joined.0 joined.1

one_step : (cells : List Cell) (most s : ℕ)
    → chain_from (strip_runs cells) (suc most) s ≡ s ∷ option_map_or (chain_from (strip_runs cells) most) (joined_from (strip_runs cells) s) []
unfolding chain_from
one_step cells most s = refl

-- a chain ends before it has taken as many steps as there are strips
enough : (cells : List Cell) → IsCut cells → (n m s : ℕ) → s < length (strip_runs cells) → length (strip_runs cells) ≤ s + n → length (strip_runs cells) ≤ s + m
    → chain_from (strip_runs cells) n s ≡ chain_from (strip_runs cells) m s
enough cells cut zero m s there first second = absurd (omega (arith, there, first))
enough cells cut (suc n) zero s there first second = absurd (omega (arith, there, second))
enough cells cut (suc n) (suc m) s there first second =
    one_step cells n s
    ∙ ap (λ (xs : List ℕ). s ∷ xs) (by_case (joined_from (strip_runs cells) s) refl
    (λ t small less. enough cells cut n m t small (omega (arith, less, first)) (omega (arith, less, second))))
    ∙ sym (one_step cells m s)
  where
    by_case : (o : Option ℕ) → joined_from (strip_runs cells) s ≡ o
        → ((t : ℕ) → t < length (strip_runs cells) → s < t → chain_from (strip_runs cells) n t ≡ chain_from (strip_runs cells) m t)
        → option_map_or (chain_from (strip_runs cells) n) o [] ≡ option_map_or (chain_from (strip_runs cells) m) o []
    by_case None is further = refl
    by_case (Some t) is further = further t (joined_back cells s t is).0 (joined_after cells cut s t there is)

-- the chain from a strip on
abbrev pub chain_at : List Cell → ℕ → List ℕ
chain_at cells s = chain_from (strip_runs cells) (length (strip_runs cells)) s

-- the chain from a strip on, if there is one
abbrev pub rest_of : List Cell → Option ℕ → List ℕ
rest_of cells next = option_map_or (chain_at cells) next []

pub chain_step : (cells : List Cell) → IsCut cells → (s : ℕ) → s < length (strip_runs cells)
    → chain_at cells s ≡ s ∷ rest_of cells (joined_from (strip_runs cells) s)
chain_step cells cut s there =
    enough cells cut (length (strip_runs cells)) (suc (length (strip_runs cells))) s there (omega arith) (omega arith)
    ∙ one_step cells (length (strip_runs cells)) s

-- an answer is the number of a strip, if there is one
pub record IsStripNumber (cells : List Cell) (next : Option ℕ) : Type 0 where
  pub small : (s : ℕ) → next ≡ Some s → s < length (strip_runs cells)

-- the strips so far, and those that are left
abbrev pub AreLeft : List Cell → List Strip → Option ℕ → ℕ → Type 0
AreLeft cells made next first = made ++ map (strip_number cells) (rest_of cells next) ≡ map (strip_number cells) (chain_at cells first)

-- how far the numbers of strips may rise
abbrev pub room_after : List Cell → Option ℕ → ℕ
room_after cells next = option_map_or (λ s. length (strip_runs cells) - s) next 0

pub left_begin : (cells : List Cell) (made : List Strip) (first : ℕ) → made ≡ [] → AreLeft cells made (Some first) first
left_begin cells made first is = ap (λ (xs : List Strip). xs ++ map (strip_number cells) (chain_at cells first)) is

pub left_more : (cells : List Cell) → IsCut cells → (made made' : List Strip) (strip : Strip) (o next : Option ℕ) (s first : ℕ)
    → made' ≡ made ++ strip ∷ [] → strip ≡ strip_number cells s → o ≡ Some s → next ≡ joined_from (strip_runs cells) s → s < length (strip_runs cells)
    → AreLeft cells made o first → AreLeft cells made' next first
left_more cells cut made made' strip o next s first pushed is here joined there before =
    ap (λ (xs : List Strip). xs ++ map (strip_number cells) (rest_of cells next)) pushed
    ∙ append_assoc made (strip ∷ []) (map (strip_number cells) (rest_of cells next))
    ∙ ap (λ (x : Strip). made ++ x ∷ map (strip_number cells) (rest_of cells next)) is
    ∙ ap (λ (n : Option ℕ). made ++ strip_number cells s ∷ map (strip_number cells) (rest_of cells n)) joined
    ∙ ap (λ (xs : List ℕ). made ++ map (strip_number cells) xs) (sym (chain_step cells cut s there))
    ∙ ap (λ (n : Option ℕ). made ++ map (strip_number cells) (rest_of cells n)) (sym here)
    ∙ before

pub left_end : (cells : List Cell) (made : List Strip) (o : Option ℕ) (first : ℕ) → o ≡ None → AreLeft cells made o first
    → made ≡ map (strip_number cells) (chain_at cells first)
left_end cells made o first none before =
    sym (append-nil made) ∙ ap (λ (n : Option ℕ). made ++ map (strip_number cells) (rest_of cells n)) (sym none) ∙ before

-- what is left becomes less
pub room_less : (cells : List Cell) → IsCut cells → (o next : Option ℕ) (s : ℕ) → o ≡ Some s → s < length (strip_runs cells)
    → next ≡ joined_from (strip_runs cells) s → room_after cells next < room_after cells o
room_less cells cut o next s here there joined =
    let P : Option ℕ → Type 0 = λ n. room_after cells next < room_after cells n in
    subst P (sym here) (by_case next joined)
  where
    by_case : (n : Option ℕ) → n ≡ joined_from (strip_runs cells) s → room_after cells n < length (strip_runs cells) - s
    by_case None is = omega (arith, there)
    by_case (Some t) is =
        let small = (joined_back cells s t (sym is)).0 in
        let less = joined_after cells cut s t there (sym is) in
        omega (arith, small, less, there)

pub number_next : (cells : List Cell) (next : Option ℕ) (s : ℕ) → next ≡ joined_from (strip_runs cells) s → IsStripNumber cells next
number_next cells next s joined = record { small = λ t is. (joined_back cells s t (sym joined ∙ is)).0 }

pub number_first : (cells : List Cell) (first : ℕ) → first < length (strip_runs cells) → IsStripNumber cells (Some first)
number_first cells first there = record { small = λ t is. subst (λ s. s < length (strip_runs cells)) (same_number first t is) there }

-- what was made is the region
pub region_made : (cells : List Cell) (made : List Strip) (region : Region) (first : ℕ) → region.strips ≡ made
    → made ≡ map (strip_number cells) (chain_at cells first) → region ≡ region_of (strip_runs cells) (chain_at cells first)
region_made cells made region first is whole = ap (λ (strips : List Strip). record { strips = strips }) (is ∙ whole)
