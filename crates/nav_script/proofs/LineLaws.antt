-- The laws of a script's lines: what is read of a line is spelled so, and what is spelled so is read.
use Rattle.std.proofs.Common.{◌≡◌, ℕ, suc, ◌<◌, ◌≤◌, Bool, true, false, cond, ◌&&◌, eqb, nat_le, nat_lt, List, [], ◌∷◌, ◌++◌, length, Option, Some, None, Ok, Err, codes, unwrap_or, subst, refl, ap, ◌∙◌, arith, slice_index, IfOk}
use Rattle.std.proofs.lemmas.Bool.{and_parts, ltb-true, leb-true}
use Rattle.std.proofs.lemmas.Bool.Decides.{nat_tests}
use Rattle.std.proofs.lemmas.Int.{ints}
use Rattle.nav_ground.specs.Limits.{IsArea, IsBox, IsRound}
use Rattle.nav_text.specs.declared.fault.FaultKind.TheVariants as kinds
use Rattle.nav_text.specs.Forms.{numbers_of, number_after, line_text, AreNumbers}
use Rattle.nav_text.proofs.FormLaws.{numbers_take, number_after_take}
use Rattle.nav_text.proofs.Inversions.{bind_some, map_some, ok_is}
use Rattle.nav_script.specs.declared.script.Line.{Line}
use Rattle.nav_script.specs.declared.script.Line.TheVariants.{Lane, Remove, Undo, Settle, Aim, Claim, Back, Submit, Publish, March}
use Rattle.nav_script.specs.declared.script.Way.{Way}
use Rattle.nav_script.specs.declared.script.Way.TheVariants.{Play, Live}
use Rattle.nav_script.specs.Spelling.{line_of}
use Rattle.nav_script.specs.Lanes.{NamesLaneBelow}
use Rattle.nav_script.specs.Limits.{AreEnds, IsPlace, IsLine}
use Rattle.nav_script.specs.Forms.{LineRead, in_limits, below_count, is_range, form, first_of_them, lane_line}
use Rattle.nav_script.specs.QuestionForms.{floor_line, is_place, is_standing, point_at, path_line, ray_line, question_line}
use Rattle.nav_script.specs.RequestForms.{is_block, is_cylinder, block_line, cylinder_line, area_block_line, area_cylinder_line, drop_line, request_line, area_forms, area_line}
use Rattle.nav_script.specs.WayForms.{worker_line, jump_line, hop_line, jump_or_hop, send_line, march_line, walker_line, way_line, read_in_groups, way_forms, line_forms, line_read}

-- the lists of a length, one element after another
some_more : (P : List ℕ → Type 0) (n : List ℕ) (k : ℕ) → ((x : ℕ) (more : List ℕ) → length more ≡ k → P (x ∷ more)) → length n ≡ suc k → P n
some_more P [] k each e = absurd (omega arith)
some_more P (x ∷ more) k each e = each x more (omega arith)

no_more : (P : List ℕ → Type 0) (n : List ℕ) → P [] → length n ≡ 0 → P n
no_more P [] none e = none
no_more P (x ∷ more) none e = absurd (omega arith)

one : (P : List ℕ → Type 0) → ((a : ℕ) → P (a ∷ [])) → (n : List ℕ) → length n ≡ 1 → P n
one P each n = some_more P n 0 (λ a more. no_more (λ l. P (a ∷ l)) more (each a))

pub two : (P : List ℕ → Type 0) → ((a b : ℕ) → P (a ∷ b ∷ [])) → (n : List ℕ) → length n ≡ 2 → P n
two P each n = some_more P n 1 (λ a more. one (λ l. P (a ∷ l)) (each a) more)

five : (P : List ℕ → Type 0) → ((a b c d e : ℕ) → P (a ∷ b ∷ c ∷ d ∷ e ∷ [])) → (n : List ℕ) → length n ≡ 5 → P n
five P each n =
    some_more P n 4 (λ a more. some_more (λ l. P (a ∷ l)) more 3 (λ b more. some_more (λ l. P (a ∷ b ∷ l)) more 2 (λ c more. two (λ l. P (a ∷ b ∷ c ∷ l)) (each a b c) more)))

six : (P : List ℕ → Type 0) → ((a b c d e f : ℕ) → P (a ∷ b ∷ c ∷ d ∷ e ∷ f ∷ [])) → (n : List ℕ) → length n ≡ 6 → P n
six P each n = some_more P n 5 (λ a more. five (λ l. P (a ∷ l)) (each a) more)

seven : (P : List ℕ → Type 0) → ((a b c d e f g : ℕ) → P (a ∷ b ∷ c ∷ d ∷ e ∷ f ∷ g ∷ [])) → (n : List ℕ) → length n ≡ 7 → P n
seven P each n = some_more P n 6 (λ a more. six (λ l. P (a ∷ l)) (each a) more)

-- the line that is read stands after these lines, and the bytes are its spelling
abbrev pub Fits : Way → (lanes workers adds : ℕ) → List ℕ → Line → Type 0
Fits way lanes workers adds text line = (text ≡ line_of line) × IsLine way lanes workers adds line

-- what is read, if it is a line, fits
abbrev pub IsRight : Way → (lanes workers adds : ℕ) → List ℕ → LineRead → Type 0
IsRight way lanes workers adds text read = (line : Line) → read ≡ Ok line → Fits way lanes workers adds text line

-- each of these that there is has a property
abbrev Each : (LineRead → Type 0) → List (Option LineRead) → Type 0
Each Q [] = Unit {0}
Each Q (o ∷ more) = ((read : LineRead) → o ≡ Some read → Q read) × Each Q more

first_is : (Q : LineRead → Type 0) (those : List (Option LineRead)) → Each Q those → (read : LineRead) → first_of_them those ≡ Some read → Q read
first_is Q [] each read e = absurd cc
first_is Q (Some x ∷ more) each read e = each.0 read e
first_is Q (None ∷ more) each read e = first_is Q more each.1 read e

-- what a form reads has a property, where the form's numbers give it
form_is : (Q : LineRead → Type 0) (word : List ℕ) (count : ℕ) (make : List ℕ → LineRead) (text : List ℕ)
    → ((n : List ℕ) → length n ≡ count → AreNumbers n → text ≡ line_text word n → Q (make n))
    → (read : LineRead) → form word count make text ≡ Some read → Q read
form_is Q word count make text gives read e =
    let told = map_some make (numbers_of word count text) read e in
    let spelled = numbers_take word count text told.0 told.1 in
    subst Q told.2 (gives told.0 spelled.1 spelled.2 spelled.0)

limits_told : (fits : Bool) (made line : Line) → in_limits fits made ≡ Ok line → (fits ≡ true) × (made ≡ line)
limits_told true made line e = (refl, ok_is e)
limits_told false made line e = absurd cc

-- a line that is made where its numbers are in their limits
limits_right : (way : Way) (lanes workers adds : ℕ) (text : List ℕ) (fits : Bool) (made : Line)
    → text ≡ line_of made → (fits ≡ true → IsLine way lanes workers adds made) → IsRight way lanes workers adds text (in_limits fits made)
limits_right way lanes workers adds text fits made spelled limits line e =
    let told = limits_told fits made line e in
    subst (Fits way lanes workers adds text) told.1 (spelled, limits told.0)

floor_limits : (x z : ℕ) → nat_le x 1023 && nat_le z 1023 ≡ true → (x ≤ 1023) × (z ≤ 1023)
floor_limits x z h = grind (arith, nat_tests)

place_limits : (x z : ℕ) → is_place x z ≡ true → IsPlace (point_at x z)
place_limits x z h =
    let parts = and_parts (nat_le x 16384) (nat_le z 16384) h in
    let x_most : x ≤ 16384 = leb-true x 16384 parts.0 in
    let z_most : z ≤ 16384 = leb-true z 16384 parts.1 in record {
      x_least = omega (arith, ints);
      x_most = omega (arith, ints);
      z_least = omega (arith, ints);
      z_most = omega (arith, ints);
    }

standing_limits : (x z y : ℕ) → is_standing x z y ≡ true → IsPlace (point_at x z) × (y ≤ 8191)
standing_limits x z y h =
    let parts = and_parts (is_place x z) (nat_le y 8191) h in (place_limits x z parts.0, leb-true y 8191 parts.1)

path_limits : (x z y to_x to_z to_y : ℕ) → is_standing x z y && is_standing to_x to_z to_y ≡ true
    → AreEnds (point_at x z) y (point_at to_x to_z) to_y
path_limits x z y to_x to_z to_y h =
    let parts = and_parts (is_standing x z y) (is_standing to_x to_z to_y) h in
    let from = standing_limits x z y parts.0 in
    let to = standing_limits to_x to_z to_y parts.1 in (from.0, from.1, to.0, to.1)

jump_limits : (x z y to_x to_z to_y cost : ℕ) → (is_standing x z y && is_standing to_x to_z to_y) && is_range 1 cost 1000000 ≡ true
    → AreEnds (point_at x z) y (point_at to_x to_z) to_y × (1 ≤ cost) × (cost ≤ 1000000)
jump_limits x z y to_x to_z to_y cost h =
    let parts = and_parts (is_standing x z y && is_standing to_x to_z to_y) (is_range 1 cost 1000000) h in
    let costs = and_parts (nat_le 1 cost) (nat_le cost 1000000) parts.1 in
    (path_limits x z y to_x to_z to_y parts.0, leb-true 1 cost costs.0, leb-true cost 1000000 costs.1)

ray_limits : (x z y to_x to_z : ℕ) → is_standing x z y && is_place to_x to_z ≡ true
    → IsPlace (point_at x z) × (y ≤ 8191) × IsPlace (point_at to_x to_z)
ray_limits x z y to_x to_z h =
    let parts = and_parts (is_standing x z y) (is_place to_x to_z) h in
    let from = standing_limits x z y parts.0 in (from.0, from.1, place_limits to_x to_z parts.1)

block_limits : (x0 x1 y0 y1 z0 z1 : ℕ) → is_range x0 x1 1023 && is_range y0 y1 8191 && is_range z0 z1 1023 ≡ true → IsBox x0 x1 y0 y1 z0 z1
block_limits x0 x1 y0 y1 z0 z1 h = record {
  x = grind (arith, nat_tests);
  x_most = grind (arith, nat_tests);
  y = grind (arith, nat_tests);
  y_most = grind (arith, nat_tests);
  z = grind (arith, nat_tests);
  z_most = grind (arith, nat_tests);
}

cylinder_limits : (cx cz r y0 y1 : ℕ) → nat_le cx 2048 && nat_le cz 2048 && nat_le r 1023 && is_range y0 y1 8191 ≡ true → IsRound cx cz r y0 y1
cylinder_limits cx cz r y0 y1 h = record {
  cx_most = grind (arith, nat_tests);
  cz_most = grind (arith, nat_tests);
  r_most = grind (arith, nat_tests);
  y = grind (arith, nat_tests);
  y_most = grind (arith, nat_tests);
}

area_limits : (area : ℕ) → is_range 1 area 63 ≡ true → IsArea area
area_limits area h = grind (arith, nat_tests)

area_block_limits : (area x0 x1 y0 y1 z0 z1 : ℕ) → is_range 1 area 63 && is_block (x0 ∷ x1 ∷ y0 ∷ y1 ∷ z0 ∷ z1 ∷ []) ≡ true
    → IsArea area × IsBox x0 x1 y0 y1 z0 z1
area_block_limits area x0 x1 y0 y1 z0 z1 h =
    let parts = and_parts (is_range 1 area 63) (is_block (x0 ∷ x1 ∷ y0 ∷ y1 ∷ z0 ∷ z1 ∷ [])) h in
    (area_limits area parts.0, block_limits x0 x1 y0 y1 z0 z1 parts.1)

area_cylinder_limits : (area cx cz r y0 y1 : ℕ) → is_range 1 area 63 && is_cylinder (cx ∷ cz ∷ r ∷ y0 ∷ y1 ∷ []) ≡ true
    → IsArea area × IsRound cx cz r y0 y1
area_cylinder_limits area cx cz r y0 y1 h =
    let parts = and_parts (is_range 1 area 63) (is_cylinder (cx ∷ cz ∷ r ∷ y0 ∷ y1 ∷ [])) h in
    (area_limits area parts.0, cylinder_limits cx cz r y0 y1 parts.1)

-- a line that names a lane or a worker
below_told : (number count : ℕ) (made line : Line) → below_count number count made ≡ Ok line → (number < count) × (made ≡ line)
below_told number count made line e = split (nat_lt number count) refl e
  where
    split : (b : Bool) → nat_lt number count ≡ b → cond b (Ok made) (Err kinds.Lane) ≡ Ok line → (number < count) × (made ≡ line)
    split true is e = (ltb-true number count is, ok_is e)
    split false is e = absurd cc

below_right : (way : Way) (lanes workers adds : ℕ) (text : List ℕ) (number count : ℕ) (made : Line)
    → text ≡ line_of made → (number < count → IsLine way lanes workers adds made) → IsRight way lanes workers adds text (below_count number count made)
below_right way lanes workers adds text number count made spelled limits line e =
    let told = below_told number count made line e in
    subst (Fits way lanes workers adds text) told.1 (spelled, limits told.0)

drop_told : (adds back : ℕ) (line : Line) → drop_line adds back ≡ Ok line → (1 ≤ back) × (back ≤ adds) × (Undo back ≡ line)
drop_told adds back line e = split (eqb back 0) refl (nat_lt adds back) refl e
  where
    split : (none : Bool) → eqb back 0 ≡ none → (past : Bool) → nat_lt adds back ≡ past
        → cond none (Err kinds.Range) (cond past (Err kinds.BeforeAdd) (Ok (Undo back))) ≡ Ok line → (1 ≤ back) × (back ≤ adds) × (Undo back ≡ line)
    split true is past at e = absurd cc
    split false is true at e = absurd cc
    split false is false at e = (grind (arith, nat_tests), grind (arith, nat_tests), ok_is e)

drop_right : (way : Way) (lanes workers adds : ℕ) (text : List ℕ) (back : ℕ)
    → text ≡ line_of (Undo back) → IsRight way lanes workers adds text (drop_line adds back)
drop_right way lanes workers adds text back spelled line e =
    let told = drop_told adds back line e in
    subst (Fits way lanes workers adds text) told.2 (spelled, (told.0, told.1))

same_right : (way : Way) (lanes workers adds : ℕ) (text : List ℕ) (made : Line)
    → text ≡ line_of made → IsLine way lanes workers adds made → IsRight way lanes workers adds text (Ok made)
same_right way lanes workers adds text made spelled limits line e = subst (Fits way lanes workers adds text) (ok_is e) (spelled, limits)

-- what a text gives at each form
abbrev Gives : Way → (lanes workers adds : ℕ) → List ℕ → List ℕ → (List ℕ → LineRead) → List ℕ → Type 0
Gives way lanes workers adds text word make n = AreNumbers n → text ≡ line_text word n → IsRight way lanes workers adds text (make n)

pub question_right : (way : Way) (lanes workers adds : ℕ) (text : List ℕ)
    → (read : LineRead) → question_line text ≡ Some read → IsRight way lanes workers adds text read
unfolding question_line
question_right way lanes workers adds text =
    let Q : LineRead → Type 0 = IsRight way lanes workers adds text in
    let R : List ℕ → (List ℕ → LineRead) → List ℕ → Type 0 = Gives way lanes workers adds text in
    let right = limits_right way lanes workers adds text in
    let forms : List (Option LineRead) = form (codes "floor") 2 floor_line text ∷ form (codes "path") 6 path_line text ∷ form (codes "ray") 5 ray_line text ∷ [] in
    first_is Q forms (
      form_is Q (codes "floor") 2 floor_line text
          (two (R (codes "floor") floor_line) (λ x z fit spelled. right _ _ spelled (floor_limits x z))),
      (
        form_is Q (codes "path") 6 path_line text
            (six (R (codes "path") path_line) (λ x z y to_x to_z to_y fit spelled. right _ _ spelled (path_limits x z y to_x to_z to_y))),
        (
          form_is Q (codes "ray") 5 ray_line text
              (five (R (codes "ray") ray_line) (λ x z y to_x to_z fit spelled. right _ _ spelled (ray_limits x z y to_x to_z))),
          tt,
        ),
      ),
    )

pub request_right : (way : Way) (lanes workers adds : ℕ) (text : List ℕ) → (read : LineRead) → request_line adds text ≡ Some read → IsRight way lanes workers adds text read
unfolding request_line
request_right way lanes workers adds text =
    let Q : LineRead → Type 0 = IsRight way lanes workers adds text in
    let R : List ℕ → (List ℕ → LineRead) → List ℕ → Type 0 = Gives way lanes workers adds text in
    let right = limits_right way lanes workers adds text in
    let remove : List ℕ → LineRead = λ n. Ok (Remove (slice_index n 0)) in
    let undo : List ℕ → LineRead = λ n. drop_line adds (slice_index n 0) in
    let forms : List (Option LineRead) = form (codes "add block") 6 block_line text ∷ form (codes "add cylinder") 5 cylinder_line text ∷ form (codes "remove") 1 remove text
    ∷ form (codes "drop") 1 undo text ∷ [] in
    first_is Q forms (
      form_is Q (codes "add block") 6 block_line text
          (six (R (codes "add block") block_line) (λ x0 x1 y0 y1 z0 z1 fit spelled. right _ _ spelled (block_limits x0 x1 y0 y1 z0 z1))),
      (
        form_is Q (codes "add cylinder") 5 cylinder_line text
            (five (R (codes "add cylinder") cylinder_line) (λ cx cz r y0 y1 fit spelled. right _ _ spelled (cylinder_limits cx cz r y0 y1))),
        (
          form_is Q (codes "remove") 1 remove text
              (one (R (codes "remove") remove) (λ number fit spelled. same_right way lanes workers adds text (Remove number) spelled fit.0)),
          (
            form_is Q (codes "drop") 1 undo text
                (one (R (codes "drop") undo) (λ back fit spelled. drop_right way lanes workers adds text back spelled)),
            tt,
          ),
        ),
      ),
    )

-- what the rest of a text gives, behind `add area` and an area
abbrev GivesArea : Way → (lanes workers adds area : ℕ) → List ℕ → List ℕ → (List ℕ → LineRead) → List ℕ → Type 0
GivesArea way lanes workers adds area text word make n =
    AreNumbers n → text ≡ line_text (codes "add area") (area ∷ []) ++ line_text word n → IsRight way lanes workers adds text (make n)

area_rest : (way : Way) (lanes workers adds area : ℕ) (text rest : List ℕ) → text ≡ line_text (codes "add area") (area ∷ []) ++ rest
    → (read : LineRead) → first_of_them (area_forms area rest) ≡ Some read → IsRight way lanes workers adds text read
area_rest way lanes workers adds area text rest before =
    let Q : LineRead → Type 0 = IsRight way lanes workers adds text in
    let R : List ℕ → (List ℕ → LineRead) → List ℕ → Type 0 = GivesArea way lanes workers adds area text in
    let right = limits_right way lanes workers adds text in
    let whole : (word n : List ℕ) → rest ≡ line_text word n → text ≡ line_text (codes "add area") (area ∷ []) ++ line_text word n =
    λ word n spelled. before ∙ ap (λ (more : List ℕ). line_text (codes "add area") (area ∷ []) ++ more) spelled in
    first_is Q (area_forms area rest) (
      form_is Q (codes " block") 6 (area_block_line area) rest
          (λ n long fit spelled. six (R (codes " block") (area_block_line area)) (λ x0 x1 y0 y1 z0 z1 fit all. right _ _ all (area_block_limits area x0 x1 y0 y1 z0 z1))
          n long fit (whole (codes " block") n spelled)),
      (
        form_is Q (codes " cylinder") 5 (area_cylinder_line area) rest
            (λ n long fit spelled. five (R (codes " cylinder") (area_cylinder_line area)) (λ cx cz r y0 y1 fit all. right _ _ all (area_cylinder_limits area cx cz r y0 y1))
            n long fit (whole (codes " cylinder") n spelled)),
        tt,
      ),
    )

pub area_right : (way : Way) (lanes workers adds : ℕ) (text : List ℕ) → (read : LineRead) → area_line text ≡ Some read → IsRight way lanes workers adds text read
unfolding area_line
area_right way lanes workers adds text read e =
    let told = bind_some (λ (x : ℕ × List ℕ). first_of_them (area_forms x.0 x.1)) (number_after (codes "add area") text) read e in
    area_rest way lanes workers adds told.0.0 text told.0.1 (number_after_take (codes "add area") text told.0 told.1) read told.2

pub lane_right : (way : Way) (lanes workers adds : ℕ) (text : List ℕ)
    → (read : LineRead) → lane_line lanes text ≡ Some read → IsRight way lanes workers adds text read
unfolding lane_line
lane_right way lanes workers adds text =
    let Q : LineRead → Type 0 = IsRight way lanes workers adds text in
    let R : List ℕ → (List ℕ → LineRead) → List ℕ → Type 0 = Gives way lanes workers adds text in
    let settle : List ℕ → LineRead = λ n. Ok Settle in
    let lane : List ℕ → LineRead = λ n. below_count (slice_index n 0) lanes (Lane (slice_index n 0)) in
    let forms : List (Option LineRead) = form (codes "settle") 0 settle text ∷ form (codes "lane") 1 lane text ∷ [] in
    first_is Q forms (
      form_is Q (codes "settle") 0 settle text
          (λ n. no_more (R (codes "settle") settle) n (λ fit spelled. same_right way lanes workers adds text Settle spelled tt)),
      (
        form_is Q (codes "lane") 1 lane text
            (one (R (codes "lane") lane) (λ number fit spelled. below_right way lanes workers adds text number lanes (Lane number) spelled (λ h. h))),
        tt,
      ),
    )

worker_right : (lanes workers adds : ℕ) (text : List ℕ)
    → (read : LineRead) → worker_line workers text ≡ Some read → IsRight Play lanes workers adds text read
unfolding worker_line
worker_right lanes workers adds text =
    let Q : LineRead → Type 0 = IsRight Play lanes workers adds text in
    let R : List ℕ → (List ℕ → LineRead) → List ℕ → Type 0 = Gives Play lanes workers adds text in
    let same = same_right Play lanes workers adds text in
    let below = below_right Play lanes workers adds text in
    let claim : List ℕ → LineRead = λ n. below_count (slice_index n 0) workers (Claim (slice_index n 0)) in
    let submit : List ℕ → LineRead = λ n. below_count (slice_index n 0) workers (Submit (slice_index n 0)) in
    let back : List ℕ → LineRead = λ n. below_count (slice_index n 0) workers (Back (slice_index n 0)) in
    let aim : List ℕ → LineRead = λ n. Ok Aim in
    let publish : List ℕ → LineRead = λ n. Ok Publish in
    let forms : List (Option LineRead) = form (codes "claim") 1 claim text ∷ form (codes "submit") 1 submit text ∷ form (codes "back") 1 back text ∷ form (codes "aim") 0 aim text
    ∷ form (codes "publish") 0 publish text ∷ [] in
    first_is Q forms (
      form_is Q (codes "claim") 1 claim text (one (R (codes "claim") claim) (λ n fit spelled. below n workers (Claim n) spelled (λ h. (refl, h)))),
      (
        form_is Q (codes "submit") 1 submit text (one (R (codes "submit") submit) (λ n fit spelled. below n workers (Submit n) spelled (λ h. (refl, h)))),
        (
          form_is Q (codes "back") 1 back text (one (R (codes "back") back) (λ n fit spelled. below n workers (Back n) spelled (λ h. (refl, h)))),
          (
            form_is Q (codes "aim") 0 aim text (λ n. no_more (R (codes "aim") aim) n (λ fit spelled. same Aim spelled refl)),
            (form_is Q (codes "publish") 0 publish text (λ n. no_more (R (codes "publish") publish) n (λ fit spelled. same Publish spelled refl)), tt),
          ),
        ),
      ),
    )

hop_right : (lanes workers adds : ℕ) (text : List ℕ)
    → (read : LineRead) → jump_or_hop text ≡ Some read → IsRight Play lanes workers adds text read
unfolding jump_or_hop
hop_right lanes workers adds text =
    let Q : LineRead → Type 0 = IsRight Play lanes workers adds text in
    let R : List ℕ → (List ℕ → LineRead) → List ℕ → Type 0 = Gives Play lanes workers adds text in
    let right = limits_right Play lanes workers adds text in
    let forms : List (Option LineRead) = form (codes "jump") 7 jump_line text ∷ form (codes "hop") 6 hop_line text ∷ [] in
    first_is Q forms (
      form_is Q (codes "jump") 7 jump_line text
          (seven (R (codes "jump") jump_line) (λ x z y to_x to_z to_y cost fit spelled. right _ _ spelled (λ h. (refl, jump_limits x z y to_x to_z to_y cost h)))),
      (
        form_is Q (codes "hop") 6 hop_line text
            (six (R (codes "hop") hop_line) (λ x z y to_x to_z to_y fit spelled. right _ _ spelled (λ h. (refl, path_limits x z y to_x to_z to_y h)))),
        tt,
      ),
    )

march_limits : (length : ℕ) → is_range 1 length 65535 ≡ true → (1 ≤ length) × (length ≤ 65535)
march_limits length h =
    let parts = and_parts (nat_le 1 length) (nat_le length 65535) h in (leb-true 1 length parts.0, leb-true length 65535 parts.1)

walker_right : (lanes workers adds : ℕ) (text : List ℕ)
    → (read : LineRead) → walker_line text ≡ Some read → IsRight Live lanes workers adds text read
unfolding walker_line
walker_right lanes workers adds text =
    let Q : LineRead → Type 0 = IsRight Live lanes workers adds text in
    let R : List ℕ → (List ℕ → LineRead) → List ℕ → Type 0 = Gives Live lanes workers adds text in
    let right = limits_right Live lanes workers adds text in
    let march : List ℕ → LineRead = λ n. march_line (slice_index n 0) in
    let forms : List (Option LineRead) = form (codes "send") 6 send_line text ∷ form (codes "march") 1 march text ∷ [] in
    first_is Q forms (
      form_is Q (codes "send") 6 send_line text
          (six (R (codes "send") send_line) (λ x z y to_x to_z to_y fit spelled. right _ _ spelled (λ h. (refl, path_limits x z y to_x to_z to_y h)))),
      (
        form_is Q (codes "march") 1 march text
            (one (R (codes "march") march) (λ length fit spelled. right _ _ spelled (λ h. let limits = march_limits length h in (refl, limits.0, limits.1)))),
        tt,
      ),
    )

pub way_right : (way : Way) (lanes workers adds : ℕ) (text : List ℕ)
    → (read : LineRead) → way_line way workers text ≡ Some read → IsRight way lanes workers adds text read
way_right Play lanes workers adds text read e =
    first_is (IsRight Play lanes workers adds text) (worker_line workers text ∷ jump_or_hop text ∷ [])
    (worker_right lanes workers adds text, (hop_right lanes workers adds text, tt)) read e
way_right Live lanes workers adds text read e = walker_right lanes workers adds text read e

known : (o : Option LineRead) (line : Line) → unwrap_or o (Err kinds.Line) ≡ Ok line → o ≡ Some (Ok line)
known (Some read) line e = ap Some e
known None line e = absurd cc

right_in_groups : (way : Way) (lanes workers adds : ℕ) (text : List ℕ) (line : Line)
    → read_in_groups way lanes workers adds text ≡ Ok line → (text ≡ line_of line) × IsLine way lanes workers adds line
right_in_groups way lanes workers adds text line e =
    let Q : LineRead → Type 0 = IsRight way lanes workers adds text in
    let forms = question_line text ∷ request_line adds text ∷ area_line text ∷ lane_line lanes text ∷ way_line way workers text ∷ [] in
    first_is Q forms (
      question_right way lanes workers adds text,
      (
        request_right way lanes workers adds text,
        (
          area_right way lanes workers adds text,
          (
            lane_right way lanes workers adds text,
            (way_right way lanes workers adds text, tt),
          ),
        ),
      ),
    )
    (Ok line) (known (first_of_them forms) line e) line refl

-- the first of a group's forms and of those behind it is the first of all
group : (xs ys zs : List (Option LineRead)) → first_of_them ys ≡ first_of_them zs → first_of_them (first_of_them xs ∷ ys) ≡ first_of_them (xs ++ zs)
group [] ys zs e = e
group (Some x ∷ xs) ys zs e = refl
group (None ∷ xs) ys zs e = group xs ys zs e

behind : (o : Option LineRead) (ys zs : List (Option LineRead)) → first_of_them ys ≡ first_of_them zs → first_of_them (o ∷ ys) ≡ first_of_them (o ∷ zs)
behind (Some x) ys zs e = refl
behind None ys zs e = e

way_groups : (way : Way) (workers : ℕ) (line : List ℕ) → first_of_them (way_line way workers line ∷ []) ≡ first_of_them (way_forms way workers line)
unfolding worker_line
way_groups Play workers line = group (worker_line workers line ∷ jump_or_hop line ∷ []) [] [] refl ∙ group (worker_forms workers line) (jump_or_hop line ∷ []) (jump_or_hop line ∷ []) refl
  where
    worker_forms : ℕ → List ℕ → List (Option LineRead)
    worker_forms workers line =
        form (codes "claim") 1 (λ n. below_count (slice_index n 0) workers (Claim (slice_index n 0))) line
        ∷ form (codes "submit") 1 (λ n. below_count (slice_index n 0) workers (Submit (slice_index n 0))) line
        ∷ form (codes "back") 1 (λ n. below_count (slice_index n 0) workers (Back (slice_index n 0))) line
        ∷ form (codes "aim") 0 (λ n. Ok Aim) line
        ∷ form (codes "publish") 0 (λ n. Ok Publish) line
        ∷ []
way_groups Live workers line = refl

-- a line is read in groups as the first of all its forms
pub groups : (way : Way) (lanes workers adds : ℕ) (line : List ℕ) → read_in_groups way lanes workers adds line ≡ line_read way lanes workers adds line
unfolding question_line request_line lane_line
groups way lanes workers adds line =
    ap (λ (o : Option LineRead). unwrap_or o (Err kinds.Line))
    (group (form (codes "floor") 2 floor_line line ∷ form (codes "path") 6 path_line line ∷ form (codes "ray") 5 ray_line line ∷ []) _ _
    (group (form (codes "add block") 6 block_line line
    ∷ form (codes "add cylinder") 5 cylinder_line line
    ∷ form (codes "remove") 1 (λ n. Ok (Remove (slice_index n 0))) line
    ∷ form (codes "drop") 1 (λ n. drop_line adds (slice_index n 0)) line
    ∷ []) _ _
    (behind (area_line line) _ _
    (group (form (codes "settle") 0 (λ n. Ok Settle) line
    ∷ form (codes "lane") 1 (λ n. below_count (slice_index n 0) lanes (Lane (slice_index n 0))) line
    ∷ []) _ _ (way_groups way workers line)))))

-- What is read of a line is spelled so, and may stand there.
pub line_right : (way : Way) (lanes workers adds : ℕ) (text : List ℕ) (line : Line)
    → line_read way lanes workers adds text ≡ Ok line → (text ≡ line_of line) × IsLine way lanes workers adds line
line_right way lanes workers adds text line e = right_in_groups way lanes workers adds text line (groups way lanes workers adds text ∙ e)

names_below : (way : Way) (lanes workers adds : ℕ) (line : Line) → IsLine way lanes workers adds line → NamesLaneBelow lanes line
names_below way lanes workers adds (Lane lane) is = is
names_below way lanes workers adds _ is = tt

-- the lane that a line names, if it names one, is there
pub right_names : (way : Way) (lanes workers adds : ℕ) (text : List ℕ) (read : LineRead) → IsRight way lanes workers adds text read
    → IfOk read (NamesLaneBelow lanes)
right_names way lanes workers adds text (Ok line) right = names_below way lanes workers adds line (right line refl).1
right_names way lanes workers adds text (Err kind) right = tt
