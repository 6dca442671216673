-- The laws of lanes: what one more line does to the counts.
use Rattle.std.proofs.Common.{◌≡◌, ℕ, ◌+◌, ◌<◌, ◌≤◌, Bool, true, false, cond, not, ◌&&◌, eqb, count_by, List, [], ◌∷◌, ◌++◌, length, get_or, set, fold, sym, subst, refl, ap, ◌∙◌, inl, inr, arith, ◌≢◌, eq-eqb, ne_eqb}
use Rattle.std.proofs.lemmas.Bool.{cases_eq}
use Rattle.std.proofs.lemmas.List.{length-set, get_or-set_same, get_or-set_other}
use Rattle.std.proofs.lemmas.List.Sums.{fold_push, sum_by-cons, sum_by_push, count_by-le-length}
use Rattle.nav_script.specs.declared.script.Line.{Line}
use Rattle.nav_script.specs.declared.script.Line.TheVariants.{Lane, Add}
use Rattle.nav_script.specs.Lanes.{next_lane, lane_after, is_add, is_jump, is_request, names_lane, lines_from, NamesLaneBelow, IsCounted}

-- how many adds of a lane are among these lines, the first of which belongs to the lane `current`
abbrev pub adds_from : (lane current : ℕ) → List Line → ℕ
adds_from lane current lines = count_by is_add (lines_from lane current lines)

abbrev adds_in : ℕ → List Line → ℕ
adds_in lane lines = adds_from lane 0 lines

-- a line that names a lane adds nothing
names_none : (line : Line) → names_lane line ≡ true → is_add line ≡ false
names_none (Add shape) names = absurd (cc names)
names_none _ names = refl

one_line : (names adds here : Bool) (line : Line) (rest : List Line) → is_add line ≡ adds → (names ≡ true → adds ≡ false)
    → count_by is_add (cond (not names && here) (line ∷ []) [] ++ rest) ≡ cond (adds && here) 1 0 + count_by is_add rest
one_line true true here line rest is none = absurd (cc (none refl))
one_line true false here line rest is none = omega arith
one_line false true true line rest is none = sum_by-cons (λ l. cond (is_add l) 1 0) line rest ∙ ap (λ (b : Bool). cond b 1 0 + count_by is_add rest) is
one_line false false true line rest is none = sum_by-cons (λ l. cond (is_add l) 1 0) line rest ∙ ap (λ (b : Bool). cond b 1 0 + count_by is_add rest) is
one_line false true false line rest is none = omega arith
one_line false false false line rest is none = omega arith

-- the adds of a line, and of those behind it
pub adds_step : (lane current : ℕ) (line : Line) (more : List Line)
    → adds_from lane current (line ∷ more) ≡ cond (is_add line && eqb current lane) 1 0 + adds_from lane (next_lane current line) more
adds_step lane current line more =
    one_line (names_lane line) (is_add line) (eqb current lane) line (lines_from lane (next_lane current line) more) refl (names_none line)

one_more : (a b c d : ℕ) → b ≡ c + d → a + b ≡ (a + c) + d
one_more a b c d e = omega arith

adds_push : (lane current : ℕ) (lines : List Line) (line : Line)
    → adds_from lane current (lines ++ line ∷ []) ≡ adds_from lane current lines + cond (is_add line && eqb (fold next_lane current lines) lane) 1 0
adds_push lane current [] line =
    adds_step lane current line [] ∙ (let n : (k : ℕ) → k + 0 ≡ 0 + k = λ k. omega arith in n (cond (is_add line && eqb current lane) 1 0))
adds_push lane current (first ∷ more) line =
    adds_step lane current first (more ++ line ∷ [])
    ∙ (one_more _ _ _ _ (adds_push lane (next_lane current first) more line)
    ∙ ap (λ n. n + cond (is_add line && eqb (fold next_lane (next_lane current first) more) lane) 1 0) (sym (adds_step lane current first more)))

at_most_one : (b : Bool) → cond b 1 0 ≤ 1
at_most_one true = omega arith
at_most_one false = omega arith

-- no lane has more adds than there are lines
pub adds_at_most : (lane current : ℕ) (lines : List Line) → adds_from lane current lines ≤ length lines
adds_at_most lane current [] = omega arith
adds_at_most lane current (line ∷ more) =
    subst (λ n. n ≤ length (line ∷ more)) (sym (adds_step lane current line more))
    (omega (arith, at_most_one (is_add line && eqb current lane), adds_at_most lane (next_lane current line) more))

next_below : (lane : ℕ) (line : Line) → NamesLaneBelow 16 line → lane < 16 → next_lane lane line < 16
next_below lane (Lane other) named below = named
next_below lane _ named below = below

same_lane : (b : Bool) (lane n : ℕ) → n + cond b 1 0 ≡ n + cond (b && eqb lane lane) 1 0
same_lane true lane n = rw (eq-eqb lane lane refl) refl
same_lane false lane n = refl

other_lane : (b : Bool) (lane k n : ℕ) → k ≢ lane → n ≡ n + cond (b && eqb lane k) 1 0
other_lane true lane k n other = rw (ne_eqb lane k (λ e. other (sym e))) (omega arith)
other_lane false lane k n other = omega arith

-- one more add in its lane
each_more : (b : Bool) (adds : List ℕ) (lane k : ℕ) → lane < length adds
    → get_or (set adds lane (get_or adds lane 0 + cond b 1 0)) k 0 ≡ get_or adds k 0 + cond (b && eqb lane k) 1 0
each_more b adds lane k within =
    elim (cases_eq k lane) [
      | inl same ↦
          let P : ℕ → Type 0 = λ l. get_or (set adds lane (get_or adds lane 0 + cond b 1 0)) l 0 ≡ get_or adds l 0 + cond (b && eqb lane l) 1 0 in
          subst P (sym same) (get_or-set_same adds lane (get_or adds lane 0 + cond b 1 0) 0 within ∙ same_lane b lane (get_or adds lane 0))
      | inr other ↦ get_or-set_other adds lane k (get_or adds lane 0 + cond b 1 0) 0 other ∙ other_lane b lane k (get_or adds k 0) other
    ]

-- with one more line, the counts are those of one more line
pub counted_more : (lines : List Line) (lane : ℕ) (adds : List ℕ) (requests jumps : ℕ) (line : Line) → IsCounted lines lane adds requests jumps
    → NamesLaneBelow 16 line
    → IsCounted (lines ++ line ∷ []) (next_lane lane line) (set adds lane (get_or adds lane 0 + cond (is_add line) 1 0)) (requests + cond (is_request line) 1 0)
    (jumps + cond (is_jump line) 1 0)
counted_more lines lane adds requests jumps line counted named =
    let here : lane ≡ lane_after lines = counted.here in
    let places : length adds ≡ 16 = counted.places in
    let below : lane < 16 = counted.below in record {
      here = ap (λ l. next_lane l line) here ∙ sym (fold_push next_lane 0 lines line);
      below = next_below lane line named below;
      places = length-set adds lane (get_or adds lane 0 + cond (is_add line) 1 0) ∙ places;
      each = λ k lt. each_more (is_add line) adds lane k (omega arith)
          ∙ (ap (λ n. n + cond (is_add line && eqb lane k) 1 0) (counted.each k lt)
          ∙ (ap (λ l. adds_in k lines + cond (is_add line && eqb l k) 1 0) here
          ∙ sym (adds_push k 0 lines line)));
      asked = ap (λ n. n + cond (is_request line) 1 0) counted.asked ∙ sym (sum_by_push (λ l. cond (is_request l) 1 0) lines line);
      declared = ap (λ n. n + cond (is_jump line) 1 0) counted.declared ∙ sym (sum_by_push (λ l. cond (is_jump l) 1 0) lines line);
    }

-- the counts are at most the number of lines
pub counted_few : (lines : List Line) (lane : ℕ) (adds : List ℕ) (requests jumps : ℕ) → IsCounted lines lane adds requests jumps
    → (get_or adds lane 0 ≤ length lines) × (requests ≤ length lines) × (jumps ≤ length lines)
counted_few lines lane adds requests jumps counted = (
  subst (λ n. n ≤ length lines) (sym (counted.each lane counted.below)) (adds_at_most lane 0 lines),
  subst (λ n. n ≤ length lines) (sym counted.asked) (count_by-le-length is_request lines),
  subst (λ n. n ≤ length lines) (sym counted.declared) (count_by-le-length is_jump lines),
)
