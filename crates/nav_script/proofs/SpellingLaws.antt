-- The laws of spelled lines: each is read as the line that it spells.
use Rattle.std.proofs.Common.{◌≡◌, ℕ, ◌^◌, ◌<◌, ◌≤◌, true, false, not, nat_lt, eqb, List, [], ◌∷◌, ◌++◌, Some, Ok, Err, ℤ, pos, negsuc, ◌≤ℤ◌, nat_abs, codes, unwrap_or, refl, sym, ap, ap₂, ◌∙◌, arith}
use Rattle.std.proofs.lemmas.Bool.{and_from, le-leb, lt-ltb}
use Rattle.std.proofs.lemmas.Bool.Decides.{nat_tests}
use Rattle.std.proofs.lemmas.Int.{ints}
use Rattle.std.proofs.lemmas.List.Folds.{list_all-append}
use Rattle.nav_base.specs.declared.point.Point.{Point}
use Rattle.nav_base.specs.declared.point.Question.{Question}
use Rattle.nav_base.specs.declared.point.Question.TheVariants.{Floor, Path, Ray}
use Rattle.nav_ground.specs.declared.shape.Shape.{Shape}
use Rattle.nav_ground.specs.declared.shape.Shape.TheVariants.{Block, Cylinder, AreaBlock, AreaCylinder, Prism, Disc}
use Rattle.nav_ground.specs.Limits.{IsArea, IsBox, IsRound, IsShape}
use Rattle.nav_text.specs.declared.fault.FaultKind.TheVariants as kinds
use Rattle.nav_text.specs.Lines.{is_line}
use Rattle.nav_text.specs.Forms.{numbers_of, number_after, has_word, line_text, AreNumbers}
use Rattle.nav_text.proofs.FormLaws.{fields_of_again, number_after_at, is_line-line_text}
use Rattle.mesh_types.specs.declared.answers.Jump as jumps
use Rattle.nav_script.specs.declared.script.Line.{Line}
use Rattle.nav_script.specs.declared.script.Line.TheVariants.{Lane, Ask, Add, Remove, Undo, Settle, Aim, Claim, Back, Submit, Publish, Jump, Hop, Send, March}
use Rattle.nav_script.specs.declared.script.Way.{Way}
use Rattle.nav_script.specs.declared.script.Way.TheVariants.{Play, Live}
use Rattle.nav_script.specs.Spelling.{ends_of, question_spelling, shape_spelling, line_of}
use Rattle.nav_script.specs.Lanes.{is_jump, is_request}
use Rattle.nav_script.specs.Limits.{AreEnds, IsJump, IsPlace, IsLine, IsQuestion, IsScriptShape}
use Rattle.nav_script.specs.Forms.{LineRead, is_range, lane_line}
use Rattle.nav_script.specs.QuestionForms.{is_place, is_standing, point_at, question_line}
use Rattle.nav_script.specs.RequestForms.{drop_line, request_line, area_line}
use Rattle.nav_script.specs.WayForms.{worker_line, jump_or_hop, walker_line, read_in_groups, line_read}
use Rattle.nav_script.specs.Reading.{begins_request}
use Rattle.nav_script.proofs.LineLaws.{groups}

-- a line begins with the word of a request exactly where it is one
pub begins_spelled : (line : Line) → begins_request (line_of line) ≡ is_request line
begins_spelled (Lane lane) = refl
begins_spelled (Ask (Floor x z)) = refl
begins_spelled (Ask (Path from from_y to to_y)) = refl
begins_spelled (Ask (Ray from from_y to)) = refl
begins_spelled (Add (Block x0 x1 y0 y1 z0 z1)) = refl
begins_spelled (Add (Cylinder cx cz r y0 y1)) = refl
begins_spelled (Add (AreaBlock area x0 x1 y0 y1 z0 z1)) = refl
begins_spelled (Add (AreaCylinder area cx cz r y0 y1)) = refl
begins_spelled (Add (Prism base area y0 y1)) = refl
begins_spelled (Add (Disc cx cz r area y0 y1)) = refl
begins_spelled (Remove number) = refl
begins_spelled (Undo back) = refl
begins_spelled Settle = refl
begins_spelled Aim = refl
begins_spelled (Claim worker) = refl
begins_spelled (Back worker) = refl
begins_spelled (Submit worker) = refl
begins_spelled Publish = refl
begins_spelled (Jump jump) = refl
begins_spelled (Hop from from_y to to_y) = refl
begins_spelled (Send from from_y to to_y) = refl
begins_spelled (March length) = refl

-- a line's first word is `jump` exactly where it declares one
pub jump_spelled : (line : Line) → has_word (codes "jump") (line_of line) ≡ is_jump line
jump_spelled (Lane lane) = refl
jump_spelled (Ask (Floor x z)) = refl
jump_spelled (Ask (Path from from_y to to_y)) = refl
jump_spelled (Ask (Ray from from_y to)) = refl
jump_spelled (Add (Block x0 x1 y0 y1 z0 z1)) = refl
jump_spelled (Add (Cylinder cx cz r y0 y1)) = refl
jump_spelled (Add (AreaBlock area x0 x1 y0 y1 z0 z1)) = refl
jump_spelled (Add (AreaCylinder area cx cz r y0 y1)) = refl
jump_spelled (Add (Prism base area y0 y1)) = refl
jump_spelled (Add (Disc cx cz r area y0 y1)) = refl
jump_spelled (Remove number) = refl
jump_spelled (Undo back) = refl
jump_spelled Settle = refl
jump_spelled Aim = refl
jump_spelled (Claim worker) = refl
jump_spelled (Back worker) = refl
jump_spelled (Submit worker) = refl
jump_spelled Publish = refl
jump_spelled (Jump jump) = refl
jump_spelled (Hop from from_y to to_y) = refl
jump_spelled (Send from from_y to to_y) = refl
jump_spelled (March length) = refl

small : (n most : ℕ) → most < 4294967296 → n ≤ most → n < 2 ^ 32
small n most fits le = omega arith

floor_again : (way : Way) (lanes workers adds x z : ℕ) → x ≤ 1023 → z ≤ 1023
    → read_in_groups way lanes workers adds (line_of (Ask (Floor x z))) ≡ Ok (Ask (Floor x z))
unfolding question_line numbers_of
floor_again way lanes workers adds x z hx hz =
    let fit : AreNumbers (x ∷ z ∷ []) = (omega arith, (omega arith, tt)) in
    rw (fields_of_again (x ∷ z ∷ []) fit, le-leb x 1023 hx, le-leb z 1023 hz) refl

remove_again : (way : Way) (lanes workers adds number : ℕ) → number < 2 ^ 32
    → read_in_groups way lanes workers adds (line_of (Remove number)) ≡ Ok (Remove number)
unfolding question_line request_line numbers_of
remove_again way lanes workers adds number fits = rw (fields_of_again (number ∷ []) (fits, tt)) refl

settle_again : (way : Way) (lanes workers adds : ℕ) → read_in_groups way lanes workers adds (line_of Settle) ≡ Ok Settle
unfolding question_line request_line area_line lane_line numbers_of number_after
settle_again way lanes workers adds = rw (fields_of_again [] tt) refl

place_true : (x z : ℕ) → x ≤ 16384 → z ≤ 16384 → is_place x z ≡ true
place_true x z hx hz = and_from _ _ (le-leb x 16384 hx) (le-leb z 16384 hz)

standing_true : (x z y : ℕ) → x ≤ 16384 → z ≤ 16384 → y ≤ 8191 → is_standing x z y ≡ true
standing_true x z y hx hz hy = and_from _ _ (place_true x z hx hz) (le-leb y 8191 hy)

-- a number from 0 on is its size
size_is : (n : ℤ) → pos 0 ≤ℤ n → pos (nat_abs n) ≡ n
size_is (pos n) least = refl
size_is (negsuc n) least = absurd (omega (arith, ints))

size_most : (n : ℤ) (most : ℕ) → pos 0 ≤ℤ n → n ≤ℤ pos most → nat_abs n ≤ most
size_most (pos n) most least h = omega (arith, ints)
size_most (negsuc n) most least h = absurd (omega (arith, ints))

-- the point that is spelled, and the limits of its numbers
point_is : (point : Point) → IsPlace point → point_at (nat_abs point.x) (nat_abs point.z) ≡ point
point_is point is = ap₂ (λ x z. let p : Point = record { x = x; z = z } in p) (size_is point.x is.x_least) (size_is point.z is.z_least)

path_numbers : (way : Way) (lanes workers adds x z y to_x to_z to_y : ℕ)
    → x ≤ 16384 → z ≤ 16384 → y ≤ 8191 → to_x ≤ 16384 → to_z ≤ 16384 → to_y ≤ 8191
    → read_in_groups way lanes workers adds (line_text (codes "path") (x ∷ z ∷ y ∷ to_x ∷ to_z ∷ to_y ∷ []))
    ≡ Ok (Ask (Path (point_at x z) y (point_at to_x to_z) to_y))
unfolding question_line numbers_of
path_numbers way lanes workers adds x z y to_x to_z to_y hx hz hy htx htz hty =
    let fit : AreNumbers (x ∷ z ∷ y ∷ to_x ∷ to_z ∷ to_y ∷ []) = (omega arith, (omega arith, (omega arith, (omega arith, (omega arith, (omega arith, tt)))))) in
    rw (fields_of_again (x ∷ z ∷ y ∷ to_x ∷ to_z ∷ to_y ∷ []) fit, standing_true x z y hx hz hy, standing_true to_x to_z to_y htx htz hty) refl

path_again : (way : Way) (lanes workers adds : ℕ) (from : Point) (from_y : ℕ) (to : Point) (to_y : ℕ) → IsQuestion (Path from from_y to to_y)
    → read_in_groups way lanes workers adds (line_of (Ask (Path from from_y to to_y))) ≡ Ok (Ask (Path from from_y to to_y))
path_again way lanes workers adds from from_y to to_y is =
    let f = is.0 in
    let t = is.2 in
    path_numbers way lanes workers adds (nat_abs from.x) (nat_abs from.z) from_y (nat_abs to.x) (nat_abs to.z) to_y
    (size_most from.x 16384 f.x_least f.x_most) (size_most from.z 16384 f.z_least f.z_most) is.1
    (size_most to.x 16384 t.x_least t.x_most) (size_most to.z 16384 t.z_least t.z_most) is.3
    ∙ ap₂ (λ a b. let l : LineRead = Ok (Ask (Path a from_y b to_y)) in l) (point_is from f) (point_is to t)

ray_numbers : (way : Way) (lanes workers adds x z y to_x to_z : ℕ)
    → x ≤ 16384 → z ≤ 16384 → y ≤ 8191 → to_x ≤ 16384 → to_z ≤ 16384
    → read_in_groups way lanes workers adds (line_text (codes "ray") (x ∷ z ∷ y ∷ to_x ∷ to_z ∷ []))
    ≡ Ok (Ask (Ray (point_at x z) y (point_at to_x to_z)))
unfolding question_line numbers_of
ray_numbers way lanes workers adds x z y to_x to_z hx hz hy htx htz =
    let fit : AreNumbers (x ∷ z ∷ y ∷ to_x ∷ to_z ∷ []) = (omega arith, (omega arith, (omega arith, (omega arith, (omega arith, tt))))) in
    rw (fields_of_again (x ∷ z ∷ y ∷ to_x ∷ to_z ∷ []) fit, standing_true x z y hx hz hy, place_true to_x to_z htx htz) refl

ray_again : (way : Way) (lanes workers adds : ℕ) (from : Point) (from_y : ℕ) (to : Point) → IsQuestion (Ray from from_y to)
    → read_in_groups way lanes workers adds (line_of (Ask (Ray from from_y to))) ≡ Ok (Ask (Ray from from_y to))
ray_again way lanes workers adds from from_y to is =
    let f = is.0 in
    let t = is.2 in
    ray_numbers way lanes workers adds (nat_abs from.x) (nat_abs from.z) from_y (nat_abs to.x) (nat_abs to.z)
    (size_most from.x 16384 f.x_least f.x_most) (size_most from.z 16384 f.z_least f.z_most) is.1
    (size_most to.x 16384 t.x_least t.x_most) (size_most to.z 16384 t.z_least t.z_most)
    ∙ ap₂ (λ a b. let l : LineRead = Ok (Ask (Ray a from_y b)) in l) (point_is from f) (point_is to t)

range_true : (low high most : ℕ) → low ≤ high → high ≤ most → is_range low high most ≡ true
range_true low high most order end = and_from _ _ (le-leb low high order) (le-leb high most end)

block_again : (way : Way) (lanes workers adds x0 x1 y0 y1 z0 z1 : ℕ) → IsBox x0 x1 y0 y1 z0 z1
    → read_in_groups way lanes workers adds (line_of (Add (Block x0 x1 y0 y1 z0 z1))) ≡ Ok (Add (Block x0 x1 y0 y1 z0 z1))
unfolding question_line request_line numbers_of
block_again way lanes workers adds x0 x1 y0 y1 z0 z1 box =
    let fit : AreNumbers (x0 ∷ x1 ∷ y0 ∷ y1 ∷ z0 ∷ z1 ∷ []) = (omega arith, (omega arith, (omega arith, (omega arith, (omega arith, (omega arith, tt)))))) in
    rw (
      fields_of_again (x0 ∷ x1 ∷ y0 ∷ y1 ∷ z0 ∷ z1 ∷ []) fit,
      range_true x0 x1 1023 box.x box.x_most,
      range_true y0 y1 8191 box.y box.y_most,
      range_true z0 z1 1023 box.z box.z_most,
    ) refl

cylinder_again : (way : Way) (lanes workers adds cx cz r y0 y1 : ℕ) → IsRound cx cz r y0 y1
    → read_in_groups way lanes workers adds (line_of (Add (Cylinder cx cz r y0 y1))) ≡ Ok (Add (Cylinder cx cz r y0 y1))
unfolding question_line request_line numbers_of
cylinder_again way lanes workers adds cx cz r y0 y1 round =
    let fit : AreNumbers (cx ∷ cz ∷ r ∷ y0 ∷ y1 ∷ []) = (omega arith, (omega arith, (omega arith, (omega arith, (omega arith, tt))))) in
    rw (
      fields_of_again (cx ∷ cz ∷ r ∷ y0 ∷ y1 ∷ []) fit,
      le-leb cx 2048 round.cx_most,
      le-leb cz 2048 round.cz_most,
      le-leb r 1023 round.r_most,
      range_true y0 y1 8191 round.y round.y_most,
    ) refl

area_true : (area : ℕ) → IsArea area → is_range 1 area 63 ≡ true
area_true area rules = range_true 1 area 63 (omega arith) (omega arith)

area_block_again : (way : Way) (lanes workers adds area x0 x1 y0 y1 z0 z1 : ℕ) → IsArea area → IsBox x0 x1 y0 y1 z0 z1
    → read_in_groups way lanes workers adds (line_of (Add (AreaBlock area x0 x1 y0 y1 z0 z1))) ≡ Ok (Add (AreaBlock area x0 x1 y0 y1 z0 z1))
unfolding question_line request_line area_line numbers_of
area_block_again way lanes workers adds area x0 x1 y0 y1 z0 z1 rules box =
    let n : List ℕ = x0 ∷ x1 ∷ y0 ∷ y1 ∷ z0 ∷ z1 ∷ [] in
    let fit : AreNumbers n = (omega arith, (omega arith, (omega arith, (omega arith, (omega arith, (omega arith, tt)))))) in
    rw (
      number_after_at (codes "add area") area (line_text (codes " block") n) (omega arith) refl,
      fields_of_again n fit,
      area_true area rules,
      range_true x0 x1 1023 box.x box.x_most,
      range_true y0 y1 8191 box.y box.y_most,
      range_true z0 z1 1023 box.z box.z_most,
    ) refl

area_cylinder_again : (way : Way) (lanes workers adds area cx cz r y0 y1 : ℕ) → IsArea area → IsRound cx cz r y0 y1
    → read_in_groups way lanes workers adds (line_of (Add (AreaCylinder area cx cz r y0 y1))) ≡ Ok (Add (AreaCylinder area cx cz r y0 y1))
unfolding question_line request_line area_line numbers_of
area_cylinder_again way lanes workers adds area cx cz r y0 y1 rules round =
    let n : List ℕ = cx ∷ cz ∷ r ∷ y0 ∷ y1 ∷ [] in
    let fit : AreNumbers n = (omega arith, (omega arith, (omega arith, (omega arith, (omega arith, tt))))) in
    rw (
      number_after_at (codes "add area") area (line_text (codes " cylinder") n) (omega arith) refl,
      fields_of_again n fit,
      area_true area rules,
      le-leb cx 2048 round.cx_most,
      le-leb cz 2048 round.cz_most,
      le-leb r 1023 round.r_most,
      range_true y0 y1 8191 round.y round.y_most,
    ) refl

drop_true : (adds back : ℕ) → 1 ≤ back → back ≤ adds → drop_line adds back ≡ Ok (Undo back)
drop_true adds back least most =
    let some : eqb back 0 ≡ false = grind (arith, nat_tests) in
    let there : nat_lt adds back ≡ false = grind (arith, nat_tests) in
    rw (some, there) refl

undo_again : (way : Way) (lanes workers adds back : ℕ) → 1 ≤ back → back ≤ adds → adds < 2 ^ 32
    → read_in_groups way lanes workers adds (line_of (Undo back)) ≡ Ok (Undo back)
unfolding question_line request_line numbers_of
undo_again way lanes workers adds back least most few =
    rw (fields_of_again (back ∷ []) (omega arith, tt)) (ap (λ r. unwrap_or (Some r) (Err kinds.Line)) (drop_true adds back least most))

lane_again : (way : Way) (lanes workers adds lane : ℕ) → lanes ≤ 16 → lane < lanes
    → read_in_groups way lanes workers adds (line_of (Lane lane)) ≡ Ok (Lane lane)
unfolding question_line request_line area_line lane_line numbers_of number_after
lane_again way lanes workers adds lane few below = rw (fields_of_again (lane ∷ []) (omega arith, tt), lt-ltb lane lanes below) refl

claim_again : (lanes workers adds worker : ℕ) → workers ≤ 8 → worker < workers
    → read_in_groups Play lanes workers adds (line_of (Claim worker)) ≡ Ok (Claim worker)
unfolding question_line request_line area_line lane_line worker_line numbers_of number_after
claim_again lanes workers adds worker few below = rw (fields_of_again (worker ∷ []) (omega arith, tt), lt-ltb worker workers below) refl

back_again : (lanes workers adds worker : ℕ) → workers ≤ 8 → worker < workers
    → read_in_groups Play lanes workers adds (line_of (Back worker)) ≡ Ok (Back worker)
unfolding question_line request_line area_line lane_line worker_line numbers_of number_after
back_again lanes workers adds worker few below = rw (fields_of_again (worker ∷ []) (omega arith, tt), lt-ltb worker workers below) refl

submit_again : (lanes workers adds worker : ℕ) → workers ≤ 8 → worker < workers
    → read_in_groups Play lanes workers adds (line_of (Submit worker)) ≡ Ok (Submit worker)
unfolding question_line request_line area_line lane_line worker_line numbers_of number_after
submit_again lanes workers adds worker few below = rw (fields_of_again (worker ∷ []) (omega arith, tt), lt-ltb worker workers below) refl

aim_again : (lanes workers adds : ℕ) → read_in_groups Play lanes workers adds (line_of Aim) ≡ Ok Aim
unfolding question_line request_line area_line lane_line worker_line numbers_of number_after
aim_again lanes workers adds = rw (fields_of_again [] tt) refl

publish_again : (lanes workers adds : ℕ) → read_in_groups Play lanes workers adds (line_of Publish) ≡ Ok Publish
unfolding question_line request_line area_line lane_line worker_line numbers_of number_after
publish_again lanes workers adds = rw (fields_of_again [] tt) refl

jump_numbers : (lanes workers adds x z y to_x to_z to_y cost : ℕ)
    → x ≤ 16384 → z ≤ 16384 → y ≤ 8191 → to_x ≤ 16384 → to_z ≤ 16384 → to_y ≤ 8191 → 1 ≤ cost → cost ≤ 1000000
    → read_in_groups Play lanes workers adds (line_text (codes "jump") (x ∷ z ∷ y ∷ to_x ∷ to_z ∷ to_y ∷ cost ∷ []))
    ≡ Ok (Jump (record { from = point_at x z; from_y = y; to = point_at to_x to_z; to_y = to_y; cost = cost }))
unfolding question_line request_line area_line lane_line worker_line jump_or_hop numbers_of number_after
jump_numbers lanes workers adds x z y to_x to_z to_y cost hx hz hy htx htz hty least most =
    let fit : AreNumbers (x ∷ z ∷ y ∷ to_x ∷ to_z ∷ to_y ∷ cost ∷ []) =
    (omega arith, (omega arith, (omega arith, (omega arith, (omega arith, (omega arith, (omega arith, tt))))))) in
    rw (
      fields_of_again (x ∷ z ∷ y ∷ to_x ∷ to_z ∷ to_y ∷ cost ∷ []) fit,
      standing_true x z y hx hz hy,
      standing_true to_x to_z to_y htx htz hty,
      range_true 1 cost 1000000 least most,
    ) refl

jump_again : (lanes workers adds : ℕ) (jump : jumps.Jump) → IsJump jump → read_in_groups Play lanes workers adds (line_of (Jump jump)) ≡ Ok (Jump jump)
jump_again lanes workers adds jump is =
    let f = is.0.0 in
    let t = is.0.2 in
    jump_numbers lanes workers adds (nat_abs jump.from.x) (nat_abs jump.from.z) jump.from_y (nat_abs jump.to.x) (nat_abs jump.to.z) jump.to_y jump.cost
    (size_most jump.from.x 16384 f.x_least f.x_most) (size_most jump.from.z 16384 f.z_least f.z_most) is.0.1
    (size_most jump.to.x 16384 t.x_least t.x_most) (size_most jump.to.z 16384 t.z_least t.z_most) is.0.3 is.1 is.2
    ∙ ap₂ (λ a b. let l : LineRead = Ok (Jump (record { from = a; from_y = jump.from_y; to = b; to_y = jump.to_y; cost = jump.cost })) in l) (point_is jump.from f) (point_is jump.to t)

hop_numbers : (lanes workers adds x z y to_x to_z to_y : ℕ) → x ≤ 16384 → z ≤ 16384 → y ≤ 8191 → to_x ≤ 16384 → to_z ≤ 16384 → to_y ≤ 8191
    → read_in_groups Play lanes workers adds (line_text (codes "hop") (x ∷ z ∷ y ∷ to_x ∷ to_z ∷ to_y ∷ []))
    ≡ Ok (Hop (point_at x z) y (point_at to_x to_z) to_y)
unfolding question_line request_line area_line lane_line worker_line jump_or_hop numbers_of number_after
hop_numbers lanes workers adds x z y to_x to_z to_y hx hz hy htx htz hty =
    let fit : AreNumbers (x ∷ z ∷ y ∷ to_x ∷ to_z ∷ to_y ∷ []) = (omega arith, (omega arith, (omega arith, (omega arith, (omega arith, (omega arith, tt)))))) in
    rw (fields_of_again (x ∷ z ∷ y ∷ to_x ∷ to_z ∷ to_y ∷ []) fit, standing_true x z y hx hz hy, standing_true to_x to_z to_y htx htz hty) refl

hop_again : (lanes workers adds : ℕ) (from : Point) (from_y : ℕ) (to : Point) (to_y : ℕ) → AreEnds from from_y to to_y
    → read_in_groups Play lanes workers adds (line_of (Hop from from_y to to_y)) ≡ Ok (Hop from from_y to to_y)
hop_again lanes workers adds from from_y to to_y is =
    let f = is.0 in
    let t = is.2 in
    hop_numbers lanes workers adds (nat_abs from.x) (nat_abs from.z) from_y (nat_abs to.x) (nat_abs to.z) to_y
    (size_most from.x 16384 f.x_least f.x_most) (size_most from.z 16384 f.z_least f.z_most) is.1
    (size_most to.x 16384 t.x_least t.x_most) (size_most to.z 16384 t.z_least t.z_most) is.3
    ∙ ap₂ (λ a b. let l : LineRead = Ok (Hop a from_y b to_y) in l) (point_is from f) (point_is to t)

send_numbers : (lanes workers adds x z y to_x to_z to_y : ℕ) → x ≤ 16384 → z ≤ 16384 → y ≤ 8191 → to_x ≤ 16384 → to_z ≤ 16384 → to_y ≤ 8191
    → read_in_groups Live lanes workers adds (line_text (codes "send") (x ∷ z ∷ y ∷ to_x ∷ to_z ∷ to_y ∷ []))
    ≡ Ok (Send (point_at x z) y (point_at to_x to_z) to_y)
unfolding question_line request_line area_line lane_line walker_line numbers_of number_after
send_numbers lanes workers adds x z y to_x to_z to_y hx hz hy htx htz hty =
    let fit : AreNumbers (x ∷ z ∷ y ∷ to_x ∷ to_z ∷ to_y ∷ []) = (omega arith, (omega arith, (omega arith, (omega arith, (omega arith, (omega arith, tt)))))) in
    rw (fields_of_again (x ∷ z ∷ y ∷ to_x ∷ to_z ∷ to_y ∷ []) fit, standing_true x z y hx hz hy, standing_true to_x to_z to_y htx htz hty) refl

send_again : (lanes workers adds : ℕ) (from : Point) (from_y : ℕ) (to : Point) (to_y : ℕ) → AreEnds from from_y to to_y
    → read_in_groups Live lanes workers adds (line_of (Send from from_y to to_y)) ≡ Ok (Send from from_y to to_y)
send_again lanes workers adds from from_y to to_y is =
    let f = is.0 in
    let t = is.2 in
    send_numbers lanes workers adds (nat_abs from.x) (nat_abs from.z) from_y (nat_abs to.x) (nat_abs to.z) to_y
    (size_most from.x 16384 f.x_least f.x_most) (size_most from.z 16384 f.z_least f.z_most) is.1
    (size_most to.x 16384 t.x_least t.x_most) (size_most to.z 16384 t.z_least t.z_most) is.3
    ∙ ap₂ (λ a b. let l : LineRead = Ok (Send a from_y b to_y) in l) (point_is from f) (point_is to t)

march_again : (lanes workers adds length : ℕ) → 1 ≤ length → length ≤ 65535 → read_in_groups Live lanes workers adds (line_of (March length)) ≡ Ok (March length)
unfolding question_line request_line area_line lane_line walker_line numbers_of number_after
march_again lanes workers adds length least most = rw (fields_of_again (length ∷ []) (omega arith, tt), range_true 1 length 65535 least most) refl

again_in_groups : (way : Way) (lanes workers adds : ℕ) (line : Line) → lanes ≤ 16 → workers ≤ 8 → adds < 2 ^ 32 → IsLine way lanes workers adds line
    → read_in_groups way lanes workers adds (line_of line) ≡ Ok line
again_in_groups way lanes workers adds (Lane lane) few crew counted is = lane_again way lanes workers adds lane few is
again_in_groups way lanes workers adds (Ask (Floor x z)) few crew counted is = floor_again way lanes workers adds x z is.0 is.1
again_in_groups way lanes workers adds (Ask (Path from from_y to to_y)) few crew counted is = path_again way lanes workers adds from from_y to to_y is
again_in_groups way lanes workers adds (Ask (Ray from from_y to)) few crew counted is = ray_again way lanes workers adds from from_y to is
again_in_groups way lanes workers adds (Add (Block x0 x1 y0 y1 z0 z1)) few crew counted is = block_again way lanes workers adds x0 x1 y0 y1 z0 z1 is
again_in_groups way lanes workers adds (Add (Cylinder cx cz r y0 y1)) few crew counted is = cylinder_again way lanes workers adds cx cz r y0 y1 is
again_in_groups way lanes workers adds (Add (AreaBlock area x0 x1 y0 y1 z0 z1)) few crew counted is = area_block_again way lanes workers adds area x0 x1 y0 y1 z0 z1 is.0 is.1
again_in_groups way lanes workers adds (Add (AreaCylinder area cx cz r y0 y1)) few crew counted is = area_cylinder_again way lanes workers adds area cx cz r y0 y1 is.0 is.1
again_in_groups way lanes workers adds (Add (Prism base area y0 y1)) few crew counted is = absurd is
again_in_groups way lanes workers adds (Add (Disc cx cz r area y0 y1)) few crew counted is = absurd is
again_in_groups way lanes workers adds (Remove number) few crew counted is = remove_again way lanes workers adds number is
again_in_groups way lanes workers adds (Undo back) few crew counted is = undo_again way lanes workers adds back is.0 is.1 counted
again_in_groups way lanes workers adds Settle few crew counted is = settle_again way lanes workers adds
again_in_groups Play lanes workers adds Aim few crew counted is = aim_again lanes workers adds
again_in_groups Live lanes workers adds Aim few crew counted is = absurd cc
again_in_groups Play lanes workers adds (Claim worker) few crew counted is = claim_again lanes workers adds worker crew is.1
again_in_groups Live lanes workers adds (Claim worker) few crew counted is = let no : Live ≡ Play = is.0 in absurd cc
again_in_groups Play lanes workers adds (Back worker) few crew counted is = back_again lanes workers adds worker crew is.1
again_in_groups Live lanes workers adds (Back worker) few crew counted is = let no : Live ≡ Play = is.0 in absurd cc
again_in_groups Play lanes workers adds (Submit worker) few crew counted is = submit_again lanes workers adds worker crew is.1
again_in_groups Live lanes workers adds (Submit worker) few crew counted is = let no : Live ≡ Play = is.0 in absurd cc
again_in_groups Play lanes workers adds Publish few crew counted is = publish_again lanes workers adds
again_in_groups Live lanes workers adds Publish few crew counted is = absurd cc
again_in_groups Play lanes workers adds (Jump jump) few crew counted is = jump_again lanes workers adds jump is.1
again_in_groups Live lanes workers adds (Jump jump) few crew counted is = let no : Live ≡ Play = is.0 in absurd cc
again_in_groups Play lanes workers adds (Hop from from_y to to_y) few crew counted is = hop_again lanes workers adds from from_y to to_y is.1
again_in_groups Live lanes workers adds (Hop from from_y to to_y) few crew counted is = let no : Live ≡ Play = is.0 in absurd cc
again_in_groups Play lanes workers adds (Send from from_y to to_y) few crew counted is = let no : Play ≡ Live = is.0 in absurd cc
again_in_groups Live lanes workers adds (Send from from_y to to_y) few crew counted is = send_again lanes workers adds from from_y to to_y is.1
again_in_groups Play lanes workers adds (March length) few crew counted is = let no : Play ≡ Live = is.0 in absurd cc
again_in_groups Live lanes workers adds (March length) few crew counted is = march_again lanes workers adds length is.1 is.2

-- A line that may stand there, spelled, is read as that line.
pub line_again : (way : Way) (lanes workers adds : ℕ) (line : Line) → lanes ≤ 16 → workers ≤ 8 → adds < 2 ^ 32 → IsLine way lanes workers adds line
    → line_read way lanes workers adds (line_of line) ≡ Ok line
line_again way lanes workers adds line few crew counted is =
    sym (groups way lanes workers adds (line_of line)) ∙ again_in_groups way lanes workers adds line few crew counted is

-- the numbers of two points with their heights
numbers_of_ends : (from : Point) (from_y : ℕ) (to : Point) (to_y : ℕ) → AreEnds from from_y to to_y → AreNumbers (ends_of from from_y to to_y)
numbers_of_ends from from_y to to_y is =
    let f = is.0 in
    let t = is.2 in
    let x = size_most from.x 16384 f.x_least f.x_most in
    let z = size_most from.z 16384 f.z_least f.z_most in
    let to_x = size_most to.x 16384 t.x_least t.x_most in
    let to_z = size_most to.z 16384 t.z_least t.z_most in
    let y : from_y ≤ 8191 = is.1 in
    let to_height : to_y ≤ 8191 = is.3 in (omega arith, (omega arith, (omega arith, (omega arith, (omega arith, (omega arith, tt))))))

plain_jump : (jump : jumps.Jump) → IsJump jump → is_line (line_of (Jump jump)) ≡ true
plain_jump jump is =
    let most : jump.cost ≤ 1000000 = is.2 in
    let (x, (z, (y, (to_x, (to_z, (to_y, _)))))) = numbers_of_ends jump.from jump.from_y jump.to jump.to_y is.0 in
    is_line-line_text (codes "jump") (ends_of jump.from jump.from_y jump.to jump.to_y ++ jump.cost ∷ []) refl
    (x, (z, (y, (to_x, (to_z, (to_y, (omega arith, tt)))))))

plain_question : (question : Question) → IsQuestion question → is_line (question_spelling question) ≡ true
plain_question (Floor x z) is = is_line-line_text (codes "floor") (x ∷ z ∷ []) refl (omega arith, (omega arith, tt))
plain_question (Path from from_y to to_y) is =
    is_line-line_text (codes "path") (ends_of from from_y to to_y) refl (numbers_of_ends from from_y to to_y is)
plain_question (Ray from from_y to) is =
    let f = is.0 in
    let t = is.2 in
    let x = size_most from.x 16384 f.x_least f.x_most in
    let z = size_most from.z 16384 f.z_least f.z_most in
    let to_x = size_most to.x 16384 t.x_least t.x_most in
    let to_z = size_most to.z 16384 t.z_least t.z_most in
    let y : from_y ≤ 8191 = is.1 in
    is_line-line_text (codes "ray") (nat_abs from.x ∷ nat_abs from.z ∷ from_y ∷ nat_abs to.x ∷ nat_abs to.z ∷ []) refl
    (omega arith, (omega arith, (omega arith, (omega arith, (omega arith, tt)))))

plain_area : (area : ℕ) (word numbers : List ℕ) → IsArea area → is_line word ≡ true → AreNumbers numbers
    → is_line (line_text (codes "add area") (area ∷ []) ++ line_text word numbers) ≡ true
plain_area area word numbers rules plain fit =
    list_all-append (λ c. not (eqb c 10)) (line_text (codes "add area") (area ∷ [])) (line_text word numbers)
    ∙ and_from _ _ (is_line-line_text (codes "add area") (area ∷ []) refl (omega arith, tt)) (is_line-line_text word numbers plain fit)

plain_shape : (shape : Shape) → IsScriptShape shape → is_line (shape_spelling shape) ≡ true
plain_shape (Block x0 x1 y0 y1 z0 z1) box =
    is_line-line_text (codes "add block") (x0 ∷ x1 ∷ y0 ∷ y1 ∷ z0 ∷ z1 ∷ []) refl
    (omega arith, (omega arith, (omega arith, (omega arith, (omega arith, (omega arith, tt))))))
plain_shape (Cylinder cx cz r y0 y1) round =
    is_line-line_text (codes "add cylinder") (cx ∷ cz ∷ r ∷ y0 ∷ y1 ∷ []) refl
    (omega arith, (omega arith, (omega arith, (omega arith, (omega arith, tt)))))
plain_shape (AreaBlock area x0 x1 y0 y1 z0 z1) (rules, box) =
    plain_area area (codes " block") (x0 ∷ x1 ∷ y0 ∷ y1 ∷ z0 ∷ z1 ∷ []) rules refl
    (omega arith, (omega arith, (omega arith, (omega arith, (omega arith, (omega arith, tt))))))
plain_shape (AreaCylinder area cx cz r y0 y1) (rules, round) =
    plain_area area (codes " cylinder") (cx ∷ cz ∷ r ∷ y0 ∷ y1 ∷ []) rules refl
    (omega arith, (omega arith, (omega arith, (omega arith, (omega arith, tt)))))
plain_shape (Prism base area y0 y1) is = absurd is
plain_shape (Disc cx cz r area y0 y1) is = absurd is

-- what a script may add is an obstacle within its limits
pub script_shape : (shape : Shape) → IsScriptShape shape → IsShape shape
script_shape (Block x0 x1 y0 y1 z0 z1) is = is
script_shape (Cylinder cx cz r y0 y1) is = is
script_shape (AreaBlock area x0 x1 y0 y1 z0 z1) is = is
script_shape (AreaCylinder area cx cz r y0 y1) is = is
script_shape (Prism base area y0 y1) is = absurd is
script_shape (Disc cx cz r area y0 y1) is = absurd is

-- a line that may stand there, spelled, has no line feed in it
pub line_plain : (way : Way) (lanes workers adds : ℕ) (line : Line) → lanes ≤ 16 → workers ≤ 8 → adds < 2 ^ 32 → IsLine way lanes workers adds line
    → is_line (line_of line) ≡ true
line_plain way lanes workers adds (Lane lane) few crew counted is = is_line-line_text (codes "lane") (lane ∷ []) refl (omega arith, tt)
line_plain way lanes workers adds (Ask question) few crew counted is = plain_question question is
line_plain way lanes workers adds (Add shape) few crew counted is = plain_shape shape is
line_plain way lanes workers adds (Remove number) few crew counted is = is_line-line_text (codes "remove") (number ∷ []) refl (is, tt)
line_plain way lanes workers adds (Undo back) few crew counted is = is_line-line_text (codes "drop") (back ∷ []) refl (omega arith, tt)
line_plain way lanes workers adds Settle few crew counted is = refl
line_plain way lanes workers adds Aim few crew counted is = refl
line_plain way lanes workers adds (Claim worker) few crew counted is = is_line-line_text (codes "claim") (worker ∷ []) refl (omega arith, tt)
line_plain way lanes workers adds (Back worker) few crew counted is = is_line-line_text (codes "back") (worker ∷ []) refl (omega arith, tt)
line_plain way lanes workers adds (Submit worker) few crew counted is = is_line-line_text (codes "submit") (worker ∷ []) refl (omega arith, tt)
line_plain way lanes workers adds Publish few crew counted is = refl
line_plain way lanes workers adds (Jump jump) few crew counted is = plain_jump jump is.1
line_plain way lanes workers adds (Hop from from_y to to_y) few crew counted is =
    is_line-line_text (codes "hop") (ends_of from from_y to to_y) refl (numbers_of_ends from from_y to to_y is.1)
line_plain way lanes workers adds (Send from from_y to to_y) few crew counted is =
    is_line-line_text (codes "send") (ends_of from from_y to to_y) refl (numbers_of_ends from from_y to to_y is.1)
line_plain way lanes workers adds (March length) few crew counted is =
    let most : length ≤ 65535 = is.2 in is_line-line_text (codes "march") (length ∷ []) refl (omega arith, tt)
