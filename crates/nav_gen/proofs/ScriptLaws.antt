-- The made script is one to be played.
use Rattle.std.proofs.Common.{◌≡◌, ℕ, zero, suc, ◌+◌, ◌-◌, ◌*◌, ◌%◌, ◌<◌, ◌≤◌, Bool, true, false, cond, ◌&&◌, eqb, nat_lt, List, [], ◌∷◌, ◌++◌, length, take, fold, map, flat_map, count_by, Some, codes, refl, sym, ap, ◌∙◌, subst, subst₂, arith}
use Rattle.std.specs.Prelude.{⊤}
use Rattle.std.specs.List.{slice_get, range_with_len}
use Rattle.std.proofs.Math.Nat.{mod-lt}
use Rattle.std.proofs.lemmas.Bool.{ltb-true}
use Rattle.std.proofs.lemmas.Int.{ints}
use Rattle.nav_ground.specs.Limits.{IsRound}
use Rattle.nav_text.proofs.Inversions.{some_is}
use Rattle.nav_script.specs.declared.script.Line.{Line}
use Rattle.nav_script.specs.declared.script.Line.TheVariants.{Ask, Add, Undo, Claim, Submit, Publish}
use Rattle.nav_script.specs.declared.script.Way.TheVariants.{Play}
use Rattle.nav_script.specs.Lanes.{next_lane, lane_after, is_add, is_jump, adds_before}
use Rattle.nav_script.proofs.LaneLaws.{adds_from, adds_step}
use Rattle.nav_script.specs.Limits.{IsPlace, IsQuestion, IsLine, IsScript}
use Rattle.nav_script.specs.Spelling.{line_of}
use Rattle.nav_gen.specs.Draws.{draw, state_after}
use Rattle.nav_gen.specs.MadeField.{IsMadeSize}
use Rattle.nav_gen.specs.MadeScript.{made_shape, made_point, made_question, made_builds, made_round, made_rounds, made_script}
use Rattle.nav_gen.proofs.Short.{AreShort, line_short}

-- the adds after a line
abbrev adds_with : ℕ → Line → ℕ
adds_with adds line = cond (is_add line) (adds + 1) adds

-- lines that may stand where so many adds stand before them, on one lane and with one worker; none names a lane, and each is short
abbrev pub AreNext : ℕ → List Line → Type 0
AreNext adds [] = ⊤
AreNext adds (line ∷ more) = IsLine Play 1 1 adds line × (next_lane 0 line ≡ 0) × (length (line_of line) ≤ 99) × AreNext (adds_with adds line) more

with_line : (b : Bool) (adds n : ℕ) → cond b (adds + 1) adds + n ≡ adds + (cond (b && eqb 0 0) 1 0 + n)
with_line true adds n = omega arith
with_line false adds n = omega arith

-- each of them may stand in its place, and belongs to lane 0
next_at : (adds : ℕ) (those : List Line) (k : ℕ) (line : Line) → AreNext adds those → slice_get those k ≡ Some line
    → IsLine Play 1 1 (adds + adds_from 0 0 (take k those)) line × (fold next_lane 0 (take k those) ≡ 0)
next_at adds [] k line next e = absurd cc
next_at adds (first ∷ more) zero line next e =
    (subst₂ (IsLine Play 1 1) {x = adds} {y = adds + 0} (omega arith) (some_is e) next.0, refl)
next_at adds (first ∷ more) (suc k) line next e =
    let rest = next_at (adds_with adds first) more k line next.3 e in
    let count : adds_with adds first + adds_from 0 0 (take k more) ≡ adds + adds_from 0 0 (first ∷ take k more) =
    with_line (is_add first) adds (adds_from 0 0 (take k more))
    ∙ ap (λ lane. adds + (cond (is_add first && eqb 0 0) 1 0 + adds_from 0 lane (take k more))) (sym next.1)
    ∙ ap (λ n. adds + n) (sym (adds_step 0 0 first (take k more))) in (
      subst (λ n. IsLine Play 1 1 n line) count rest.0,
      ap (λ lane. fold next_lane lane (take k more)) next.1 ∙ rest.1,
    )

pub next_short : (adds : ℕ) (those : List Line) → AreNext adds those → AreShort (map line_of those)
next_short adds [] next = tt
next_short adds (line ∷ more) next = (next.2, next_short (adds_with adds line) more next.3)

-- the draws of a round
place_rules : (state size : ℕ) → IsMadeSize size → IsPlace (made_point state size)
place_rules state size fits =
    let least : 32 ≤ size = fits.0 in
    let most : size ≤ 512 = fits.1 in
    let x : draw state 0 % (16 * size) < 16 * size = mod-lt (draw state 0) (omega arith) in
    let z : draw state 1 % (16 * size) < 16 * size = mod-lt (draw state 1) (omega arith) in record {
      x_least = omega (arith, ints);
      x_most = omega (arith, ints);
      z_least = omega (arith, ints);
      z_most = omega (arith, ints);
    }

shape_rules : (state size : ℕ) → IsMadeSize size
    → IsRound (draw state 0 % (2 * size + 1)) (draw state 1 % (2 * size + 1)) (draw state 2 % 8) 0 100
shape_rules state size fits =
    let most : size ≤ 512 = fits.1 in
    let cx : draw state 0 % (2 * size + 1) < 2 * size + 1 = mod-lt (draw state 0) (omega arith) in
    let cz : draw state 1 % (2 * size + 1) < 2 * size + 1 = mod-lt (draw state 1) (omega arith) in
    let r : draw state 2 % 8 < 8 = mod-lt (draw state 2) (omega arith) in record {
      cx_most = omega arith;
      cz_most = omega arith;
      r_most = omega arith;
      y = omega arith;
      y_most = omega arith;
    }

shape_short : (state size : ℕ) → IsMadeSize size → length (line_of (Add (made_shape state size))) ≤ 99
shape_short state size fits =
    let is = shape_rules state size fits in
    let cx : draw state 0 % (2 * size + 1) ≤ 2048 = is.cx_most in
    let cz : draw state 1 % (2 * size + 1) ≤ 2048 = is.cz_most in
    let r : draw state 2 % 8 ≤ 1023 = is.r_most in
    line_short (codes "add cylinder") (draw state 0 % (2 * size + 1) ∷ draw state 1 % (2 * size + 1) ∷ draw state 2 % 8 ∷ 0 ∷ 100 ∷ []) (omega arith) (omega arith)
    (omega arith, (omega arith, (omega arith, (omega arith, (omega arith, tt)))))

coordinate : (n size : ℕ) → IsMadeSize size → n % (16 * size) ≤ 8191
coordinate n size fits =
    let least : 32 ≤ size = fits.0 in
    let most : size ≤ 512 = fits.1 in
    let below : n % (16 * size) < 16 * size = mod-lt n (omega arith) in
    omega arith

question_short : (state size : ℕ) → IsMadeSize size → length (line_of (Ask (made_question state size))) ≤ 99
question_short state size fits =
    let x = coordinate (draw state 0) size fits in
    let z = coordinate (draw state 1) size fits in
    let to_x = coordinate (draw (state_after state 2) 0) size fits in
    let to_z = coordinate (draw (state_after state 2) 1) size fits in
    line_short (codes "path")
    (draw state 0 % (16 * size) ∷ draw state 1 % (16 * size) ∷ 10 ∷ draw (state_after state 2) 0 % (16 * size) ∷ draw (state_after state 2) 1 % (16 * size) ∷ 10 ∷ [])
    (omega arith) (omega arith) (omega arith, (omega arith, (omega arith, (omega arith, (omega arith, (omega arith, tt))))))

builds_next : (first count adds : ℕ) (rest : List Line) → AreNext adds rest
    → AreNext adds (flat_map (λ (turn : ℕ). Claim 0 ∷ Submit 0 ∷ []) (range_with_len first count) ++ rest)
builds_next first zero adds rest next = next
builds_next first (suc count) adds rest next = (
  (refl, omega arith),
  refl,
  line_short (codes "claim") (0 ∷ []) (omega arith) (omega arith) (omega arith, tt),
  (
    (refl, omega arith),
    refl,
    line_short (codes "submit") (0 ∷ []) (omega arith) (omega arith) (omega arith, tt),
    builds_next (first + 1) count adds rest next,
  ),
)

-- the lines of a round behind its add and its drop
abbrev built : (state size : ℕ) → List Line
built state size = made_builds ++ (Ask (made_question (state_after state 3) size) ∷ [])

built_next : (state size adds : ℕ) (rest : List Line) → IsMadeSize size → AreNext adds rest → AreNext adds (built state size ++ rest)
unfolding made_builds
built_next state size adds rest fits next =
    let from = state_after state 3 in
    let question : IsQuestion (made_question from size) =
    (place_rules from size fits, (let e : 10 ≤ 8191 = omega arith in e), place_rules (state_after from 2) size fits, (let e : 10 ≤ 8191 = omega arith in e)) in (
      refl,
      refl,
      (let e : 3 ≤ 99 = omega arith in e),
      builds_next 0 8 adds (Publish ∷ Ask (made_question from size) ∷ rest)
          (refl, refl, (let e : 7 ≤ 99 = omega arith in e), (question, refl, question_short from size fits, next)),
    )

round_next : (state size before : ℕ) (rest : List Line) → IsMadeSize size → before < 64 → AreNext (before + 1) rest → AreNext before (made_round state size before ++ rest)
unfolding made_round
round_next state size before rest fits few next =
    (shape_rules state size fits, refl, shape_short state size fits, behind (nat_lt 7 before) refl)
  where
    behind : (b : Bool) → nat_lt 7 before ≡ b → AreNext (before + 1) ((cond b (Undo (before - 7) ∷ []) [] ++ built state size) ++ rest)
    behind true late =
        let later : 7 < before = ltb-true 7 before late in (
          (omega arith, omega arith),
          refl,
          line_short (codes "drop") ((before - 7) ∷ []) (omega arith) (omega arith) (omega arith, tt),
          built_next state size (before + 1) rest fits next,
        )
    behind false early = built_next state size (before + 1) rest fits next

rounds_next : (state size first count : ℕ) → IsMadeSize size → first + count ≤ 64
    → AreNext first (flat_map (λ before. made_round (state_after state (7 * before)) size before) (range_with_len first count))
rounds_next state size first zero fits few = tt
rounds_next state size first (suc count) fits few =
    round_next (state_after state (7 * first)) size first (flat_map (λ before. made_round (state_after state (7 * before)) size before) (range_with_len (first + 1) count))
    fits (omega arith) (rounds_next state size (first + 1) count fits (omega arith))

pub made_next : (state size : ℕ) → IsMadeSize size → AreNext 0 (made_rounds state size)
unfolding made_rounds
made_next state size fits = rounds_next state size 0 64 fits (omega arith)

pub length-made_rounds : (state size : ℕ) → length (made_rounds state size) ≡ 1336
unfolding made_rounds made_round made_builds
length-made_rounds state size = refl

-- none of its lines declares a jump
no_jumps : (state size : ℕ) → count_by is_jump (made_rounds state size) ≡ 0
unfolding made_rounds made_round made_builds
no_jumps state size = refl

pub script_rules : (number size : ℕ) → IsMadeSize size → IsScript Play (made_script number size)
script_rules number size fits =
    let state = state_after number (size * size) in
    let those = made_rounds state size in record {
      lanes_least = omega arith;
      lanes_most = omega arith;
      workers_least = omega arith;
      workers_most = omega arith;
      few = omega (arith, length-made_rounds state size);
      requests = λ live. absurd cc;
      jumps = omega (arith, no_jumps state size);
      each = λ k line e.
          let at = next_at 0 those k line (made_next state size fits) e in
          let lane : lane_after (take k those) ≡ 0 = at.1 in
          let count : 0 + adds_from 0 0 (take k those) ≡ adds_before (take k those) =
          (let n : 0 + adds_from 0 0 (take k those) ≡ adds_from 0 0 (take k those) = omega arith in n) ∙ ap (λ l. adds_from l 0 (take k those)) (sym lane) in
          subst (λ n. IsLine Play 1 1 n line) count at.0;
    }
