-- The lines of a script can be played.
use Rattle.std.proofs.Common.{◌≡◌, ℕ, ◌+◌, ◌<◌, ◌≤◌, true, cond, ℤ, pos, ◌≤ℤ◌, List, length, take, drop, get_or, count_by, sym, subst, refl, ap, ◌∙◌, arith}
use Rattle.std.proofs.lemmas.Int.{ints}
use Rattle.std.proofs.lemmas.List.{drop_more}
use Rattle.std.proofs.lemmas.List.Sums.{sum_by-cons}
use Rattle.std.proofs.lemmas.Option.{slice_get-get_or}
use Rattle.nav_base.specs.declared.point.Question.{Question}
use Rattle.nav_base.specs.declared.point.Question.TheVariants.{Floor, Path, Ray}
use Rattle.nav_base.specs.declared.point.Point.{Point}
use Rattle.nav_base.specs.Point.{HasCoordinates, IsCoordinate}
use Rattle.nav_query.specs.Questions.{IsAnswerable}
use Rattle.nav_script.specs.declared.script.Line.{Line}
use Rattle.nav_script.specs.declared.script.Line.TheVariants.{Lane, Ask, Add, Claim, Back, Submit, Jump, Hop, Send, March}
use Rattle.nav_script.specs.declared.script.Script.{Script}
use Rattle.nav_script.specs.declared.script.Way.TheVariants.{Play, Live}
use Rattle.nav_script.specs.Limits.{IsScript, IsLine, IsPlace, IsQuestion}
use Rattle.nav_script.proofs.SpellingLaws.{script_shape}
use Rattle.nav_script.specs.Lanes.{adds_before, is_jump}
use Rattle.nav_play.specs.Players.{IsPlayable}

-- a place that a script names is a point with coordinates
coordinate : (n : ℤ) → pos 0 ≤ℤ n → n ≤ℤ pos 16384 → IsCoordinate n
coordinate n least most = record { low = grind (arith, ints); high = grind (arith, ints) }

place_fits : (point : Point) → IsPlace point → HasCoordinates point
place_fits point place = record { across = coordinate point.x place.x_least place.x_most; along = coordinate point.z place.z_least place.z_most }

-- and a question of a script can be answered
answerable : (question : Question) → IsQuestion question → IsAnswerable question
answerable (Floor x z) fits = tt
answerable (Path from from_y to to_y) fits = (place_fits from fits.0, place_fits to fits.2)
answerable (Ray from from_y to) fits = (place_fits from fits.0, place_fits to fits.2)

playable : (lanes workers jumps before : ℕ) (line : Line) → IsLine Play lanes workers before line → (is_jump line ≡ true → jumps < 256)
    → IsPlayable lanes workers jumps line
playable lanes workers jumps before (Lane lane) fits room = fits
playable lanes workers jumps before (Ask question) fits room = answerable question fits
playable lanes workers jumps before (Add shape) fits room = script_shape shape fits
playable lanes workers jumps before (Claim worker) fits room = fits.1
playable lanes workers jumps before (Back worker) fits room = fits.1
playable lanes workers jumps before (Submit worker) fits room = fits.1
playable lanes workers jumps before (Jump jump) fits room =
    (room refl, record { from = place_fits jump.from fits.1.0.0; to = place_fits jump.to fits.1.0.2 })
playable lanes workers jumps before (Hop from from_y to to_y) fits room = (place_fits from fits.1.0, place_fits to fits.1.2)
playable lanes workers jumps before (Send from from_y to to_y) fits room = let no : Play ≡ Live = fits.0 in absurd cc
playable lanes workers jumps before (March far) fits room = let no : Play ≡ Live = fits.0 in absurd cc
playable lanes workers jumps before _ fits room = tt

-- where the jumps so far and those of the lines that are left are at most 256, a jump of the next line is not one too many
jump_room : (lines : List Line) (k jumps : ℕ) (d : Line) → k < length lines → jumps + count_by is_jump (drop k lines) ≤ 256 → is_jump (get_or lines k d) ≡ true
    → jumps < 256
jump_room lines k jumps d there most is =
    let parts = ap (count_by is_jump) (drop_more lines k d there) ∙ sum_by-cons (λ l. cond (is_jump l) 1 0) (get_or lines k d) (drop (k + 1) lines) in
    let one : ◌≡◌ {A = ℕ} (cond (is_jump (get_or lines k d)) 1 0) 1 = ap (λ b. cond b 1 0) is in
    omega (arith, most, parts, one)

-- each line of a script can be played
pub line_playable : (script : Script) (items : List Line) (k lanes workers jumps : ℕ) (d : Line) → IsScript Play script → items ≡ script.lines → k < length items
    → lanes ≡ script.lanes → workers ≡ script.workers → jumps + count_by is_jump (drop k script.lines) ≤ 256
    → IsPlayable lanes workers jumps (get_or items k d)
line_playable script items k lanes workers jumps d rules same there all each room =
    let there' : k < length script.lines = subst (λ (xs : List Line). k < length xs) same there in
    let fits = rules.each k (get_or script.lines k d) (slice_get-get_or script.lines k d there') in
    subst (λ (xs : List Line). IsPlayable lanes workers jumps (get_or xs k d)) (sym same)
    (subst (λ (n : ℕ). IsPlayable n workers jumps (get_or script.lines k d)) (sym all)
    (subst (λ (n : ℕ). IsPlayable script.lanes n jumps (get_or script.lines k d)) (sym each)
    (playable script.lanes script.workers jumps (adds_before (take k script.lines)) (get_or script.lines k d) fits (jump_room script.lines k jumps d there' room))))
