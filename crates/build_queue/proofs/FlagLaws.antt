-- Flags after one of them was written.
use Rattle.std.proofs.Common.{◌≡◌, ◌≢◌, ℕ, zero, suc, ◌+◌, ◌<◌, Bool, true, false, not, ◌&&◌, Option, Some, None, List, [], ◌∷◌, length, set, replicate, cond, ap, sym, subst, ◌∙◌, refl, ⊎_elim, arith}
use Rattle.std.specs.Prelude.{IfSome, if◌then◌else◌}
use Rattle.std.proofs.lemmas.Bool.{both_ways, cases_eq}
use Rattle.std.proofs.lemmas.List.{get_or-set_same, get_or-set_other}
use Rattle.std.proofs.lemmas.List.Sums.{sum_by-set}
use Rattle.build_queue.specs.Flags.{flag_of, set_count, least_below}
use Rattle.build_queue.specs.Waiting.{Waiting, AreReady}
use Rattle.build_queue.proofs.Leasts.{least_passes, none_below}

-- a flag that was written, and the others
pub flag_written : (flags : List Bool) (tile : ℕ) (b : Bool) → tile < length flags → flag_of (set flags tile b) tile ≡ b
flag_written flags tile b there = get_or-set_same flags tile b false there

pub flag_other : (flags : List Bool) (tile k : ℕ) (b : Bool) → k ≢ tile → flag_of (set flags tile b) k ≡ flag_of flags k
flag_other flags tile k b apart = get_or-set_other flags tile k b false apart

-- a set flag stays set where another, or itself, is set
pub still_set : (flags : List Bool) (tile k : ℕ) → tile < length flags → flag_of flags k ≡ true → flag_of (set flags tile true) k ≡ true
still_set flags tile k there is = ⊎_elim
    (λ same. ap (flag_of (set flags tile true)) same ∙ flag_written flags tile true there)
    (λ apart. flag_other flags tile k true apart ∙ is)
    (cases_eq k tile)

-- what makes a flag set is not so where the flag is not set
pub unset : (a b : Bool) → (a ≡ true → b ≡ true) → b ≡ false → a ≡ false
unset true b sets is = absurd (both_ways b is (sets refl))
unset false b sets is = refl

-- flags that are never set
pub flag_of_none : (count tile : ℕ) → flag_of (replicate count false) tile ≡ false
flag_of_none zero tile = refl
flag_of_none (suc count) zero = refl
flag_of_none (suc count) (suc tile) = flag_of_none count tile

-- how many flags are set, after one was written
pub count_written : (flags : List Bool) (tile : ℕ) (b : Bool) → tile < length flags
    → set_count (set flags tile b) + cond (flag_of flags tile) 1 0 ≡ set_count flags + cond b 1 0
count_written flags tile b there = sum_by-set (λ (flag : Bool). cond flag 1 0) flags tile b false there

-- one less where a set flag was taken away
pub one_less : (flags : List Bool) (tile : ℕ) → tile < length flags → flag_of flags tile ≡ true → set_count (set flags tile false) < set_count flags
one_less flags tile there is =
    let counts = subst (λ (b : Bool). set_count (set flags tile false) + cond b 1 0 ≡ set_count flags + 0) is (count_written flags tile false there) in
    omega (arith, counts)

-- flags of which none is set
pub all_unset : (flags : List Bool) → ((tile : ℕ) → tile < length flags → flag_of flags tile ≡ false) → flags ≡ replicate (length flags) false
all_unset [] unset = refl
all_unset (flag ∷ flags) unset =
    ap (λ (b : Bool). b ∷ flags) (unset 0 (omega arith))
    ∙ ap (λ (rest : List Bool). false ∷ rest) (all_unset flags (λ tile there. unset (suc tile) (omega (arith, there))))

-- looking again at one marked tile
pub looked_more : (marks flags : List Bool) (tile k : ℕ) (fresh : ℕ → Bool) → tile < length marks → tile < length flags → flag_of marks tile ≡ true
    → (if flag_of (set marks tile false) k then fresh k else flag_of (set flags tile (fresh tile)) k) ≡ (if flag_of marks k then fresh k else flag_of flags k)
looked_more marks flags tile k fresh there within is = ⊎_elim
    (λ same. subst (λ (n : ℕ). (if flag_of (set marks tile false) n then fresh n else flag_of (set flags tile (fresh tile)) n) ≡ (if flag_of marks n then fresh n else flag_of flags n))
    (sym same)
    (ap (λ b. if b then fresh tile else flag_of (set flags tile (fresh tile)) tile) (flag_written marks tile false there)
    ∙ flag_written flags tile (fresh tile) within
    ∙ sym (ap (λ b. if b then fresh tile else flag_of flags tile) is)))
    (λ apart.
    ap (λ b. if b then fresh k else flag_of (set flags tile (fresh tile)) k) (flag_other marks tile k false apart)
    ∙ ap (λ b. if flag_of marks k then fresh k else b) (flag_other flags tile k (fresh tile) apart))
    (cases_eq k tile)

-- the least of flags is one of them
pub least_there : (flags : List Bool) (count : ℕ) (found : Option ℕ) → found ≡ least_below (length flags) (flag_of flags) → length flags ≡ count
    → IfSome found (λ tile. tile < count)
least_there flags count (Some tile) is same = let there = (least_passes (length flags) tile (flag_of flags) (sym is)).0 in omega (arith, there, same)
least_there flags count None is same = tt

-- all claims have ended where no tile is claimed
pub released : (start now : Waiting) → now.awaited ≡ start.awaited → length now.claimed ≡ length start.claimed
    → least_below (length now.claimed) (flag_of now.claimed) ≡ None → now ≡ record start { claimed = replicate (length start.claimed) false }
released start now same each none =
    ap (λ (flags : List Bool). record now { awaited = flags }) same
    ∙ ap (λ (claims : List Bool). record start { claimed = claims })
    (all_unset now.claimed (λ tile there. none_below (length now.claimed) (flag_of now.claimed) tile none there) ∙ ap (λ count. replicate count false) each)

-- of tiles of which none is awaited or claimed none is ready
pub none_ready : (count : ℕ) (awaited claimed ready : List Bool) → awaited ≡ replicate count false → claimed ≡ replicate count false
    → ready ≡ replicate count false → AreReady (record { awaited = awaited; claimed = claimed }) ready
none_ready count awaited claimed ready none unclaimed unready = record {
  claims = ap length unclaimed ∙ sym (ap length none);
  each = ap length unready ∙ sym (ap length none);
  same = λ tile there. ap (λ flags. flag_of flags tile) unready ∙ flag_of_none count tile
      ∙ sym (ap (λ flag. flag && not (flag_of claimed tile)) (ap (λ flags. flag_of flags tile) none ∙ flag_of_none count tile));
}
