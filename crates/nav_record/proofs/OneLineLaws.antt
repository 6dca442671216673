-- Each text of one answer is one line.
use Rattle.std.proofs.Common.{◌≡◌, ◌∙◌, refl, sym, ap, append_assoc, cond, nat_lt, zero, suc, ℕ, ◌+◌, ◌%◌, ◌/◌, Bool, true, false, List, [], ◌∷◌, ◌++◌, codes, decimal, arith, not, eqb, ◌==◌}
use Rattle.std.specs.Fmt.{digits, digits_onto, digit_glyph}
use Rattle.std.specs.List.{flat_map}
use Rattle.std.proofs.lemmas.Bool.{and_from}
use Rattle.std.proofs.lemmas.Bool.Decides.{nat_tests}
use Rattle.std.proofs.lemmas.List.Folds.{list_all-append}
use Rattle.nav_ground.specs.declared.history.Entry.{Entry}
use Rattle.nav_ground.specs.declared.history.Reply.{Reply}
use Rattle.nav_ground.specs.declared.history.Reply.TheVariants.{Added, Removed, Full, Dead}
use Rattle.nav_ground.specs.declared.history.Request.{Request}
use Rattle.nav_ground.specs.declared.history.Request.TheVariants.{Add, Remove}
use Rattle.nav_ground.specs.declared.shape.Shape.{Shape}
use Rattle.nav_ground.specs.declared.shape.Shape.TheVariants.{Block, Cylinder, AreaBlock, AreaCylinder, Prism, Disc}
use Rattle.nav_text.specs.declared.fault.TextFault.{TextFault}
use Rattle.nav_text.specs.Forms.{line_text}
use Rattle.nav_text.specs.Lines.{ended, is_line}
use Rattle.nav_script.specs.Spelling.{shape_spelling}
use Rattle.nav_record.specs.declared.step.StepAnswer.{StepAnswer}
use Rattle.nav_record.specs.declared.step.StepAnswer.TheVariants.{Aim, Claimed, NoTile, Busy, Idle, Back, Taken, Stale, Published, Same, NotYet, Settled, HistoryFull}
use Rattle.nav_record.specs.OneLine.{IsOneLine}
use Rattle.nav_record.specs.EntryTexts.{reply_text, outcome_text, request_spelling, entry_text}
use Rattle.nav_record.specs.StepTexts.{step_text}
use Rattle.nav_record.specs.FrameTexts.{done_text, history_text, lane_text, final_text, fault_text}

-- a glyph is no line feed
glyph_plain : (small : Bool) (d : ℕ) → not (eqb (cond small (48 + d) (87 + d)) 10) ≡ true
glyph_plain true d = grind (arith, nat_tests)
glyph_plain false d = grind (arith, nat_tests)

either_plain : (b : Bool) (this that : List ℕ) → is_line this ≡ true → is_line that ≡ true → is_line (cond b this that) ≡ true
either_plain true this that plain more = plain
either_plain false this that plain more = more

digits_onto_plain : (k n : ℕ) (acc : List ℕ) → is_line acc ≡ true → is_line (digits_onto k 10 false n acc) ≡ true
digits_onto_plain zero n acc plain = plain
digits_onto_plain (suc k) n acc plain =
    let onto = and_from _ _ (glyph_plain (nat_lt (n % 10) 10) (n % 10)) plain in
    either_plain (n / 10 == 0) (digit_glyph false (n % 10) ∷ acc) (digits_onto k 10 false (n / 10) (digit_glyph false (n % 10) ∷ acc)) onto
    (digits_onto_plain k (n / 10) (digit_glyph false (n % 10) ∷ acc) onto)

-- a number has no line feed in it
pub is_line-decimal : (n : ℕ) → is_line (decimal n) ≡ true
unfolding digits
is_line-decimal n = digits_onto_plain 64 n [] refl

-- parts without a line feed have none together
pub is_line-append : (front back : List ℕ) → is_line front ≡ true → is_line back ≡ true → is_line (front ++ back) ≡ true
is_line-append front back plain more = list_all-append (λ c. not (eqb c 10)) front back ∙ and_from _ _ plain more

-- words round one number
numbered : (before after : List ℕ) (n : ℕ) → is_line before ≡ true → is_line after ≡ true → IsOneLine (before ++ decimal n ++ (after ++ 10 ∷ []))
numbered before after n plain more =
    let number = is_line-append before (decimal n) plain (is_line-decimal n) in
    (before ++ decimal n ++ after, sym (append_assoc (before ++ decimal n) after (10 ∷ [])), is_line-append (before ++ decimal n) after number more)

-- words round two numbers
numbered_twice : (before between : List ℕ) (n m : ℕ) → is_line before ≡ true → is_line between ≡ true → IsOneLine (before ++ decimal n ++ between ++ decimal m ++ 10 ∷ [])
numbered_twice before between n m plain more =
    let front = is_line-append (before ++ decimal n) between (is_line-append before (decimal n) plain (is_line-decimal n)) more in
    (before ++ decimal n ++ between ++ decimal m, refl, is_line-append (before ++ decimal n ++ between) (decimal m) front (is_line-decimal m))

pub step_line : (step : StepAnswer) → IsOneLine (step_text step)
step_line (Aim k) = numbered (codes "aim ") [] k refl refl
step_line (Claimed worker tile) = numbered_twice (codes "claim ") (codes " tile ") worker tile refl refl
step_line (NoTile worker) = numbered (codes "claim ") (codes " none") worker refl refl
step_line (Busy worker) = numbered (codes "busy ") [] worker refl refl
step_line (Idle worker) = numbered (codes "idle ") [] worker refl refl
step_line (Back worker tile) = numbered_twice (codes "back ") (codes " tile ") worker tile refl refl
step_line (Taken worker tile) = numbered_twice (codes "submit ") (codes " taken ") worker tile refl refl
step_line (Stale worker tile) = numbered_twice (codes "submit ") (codes " stale ") worker tile refl refl
step_line (Published k) = numbered (codes "published ") [] k refl refl
step_line (Same k) = numbered (codes "same ") [] k refl refl
step_line (NotYet tile) = numbered (codes "notyet ") [] tile refl refl
step_line (Settled k) = numbered (codes "settled ") [] k refl refl
step_line (HistoryFull len) = numbered (codes "history full ") [] len refl refl

pub done_line : (k n : ℕ) → IsOneLine (done_text k n)
done_line k n = numbered_twice (codes "done ") (codes " ") k n refl refl

pub fault_line : (fault : TextFault) → IsOneLine (fault_text fault)
fault_line fault = numbered_twice (codes "fault ") (codes " ") fault.line fault.kind refl refl

-- a text that goes on without a line feed, up to its last
ends : (front line : List ℕ) (text : List ℕ) → text ≡ ended line → is_line front ≡ true → is_line line ≡ true → IsOneLine (front ++ text)
ends front line text is plain more = (front ++ line, ap (λ t. front ++ t) is ∙ sym (append_assoc front line (10 ∷ [])), is_line-append front line plain more)

-- the line of a word and numbers has no line feed in it
numbers_plain : (numbers : List ℕ) → is_line (flat_map (λ n. 32 ∷ decimal n) numbers) ≡ true
numbers_plain [] = refl
numbers_plain (n ∷ more) = is_line-append (32 ∷ decimal n) (flat_map (λ m. 32 ∷ decimal m) more) (is_line-decimal n) (numbers_plain more)

worded : (word numbers : List ℕ) → is_line word ≡ true → is_line (line_text word numbers) ≡ true
worded word numbers plain = is_line-append word (flat_map (λ n. 32 ∷ decimal n) numbers) plain (numbers_plain numbers)

shape_plain : (shape : Shape) → is_line (shape_spelling shape) ≡ true
shape_plain (Block x0 x1 y0 y1 z0 z1) = worded (codes "add block") (x0 ∷ x1 ∷ y0 ∷ y1 ∷ z0 ∷ z1 ∷ []) refl
shape_plain (Cylinder cx cz r y0 y1) = worded (codes "add cylinder") (cx ∷ cz ∷ r ∷ y0 ∷ y1 ∷ []) refl
shape_plain (AreaBlock area x0 x1 y0 y1 z0 z1) =
    is_line-append (line_text (codes "add area") (area ∷ [])) (line_text (codes " block") (x0 ∷ x1 ∷ y0 ∷ y1 ∷ z0 ∷ z1 ∷ []))
    (worded (codes "add area") (area ∷ []) refl) (worded (codes " block") (x0 ∷ x1 ∷ y0 ∷ y1 ∷ z0 ∷ z1 ∷ []) refl)
shape_plain (AreaCylinder area cx cz r y0 y1) =
    is_line-append (line_text (codes "add area") (area ∷ [])) (line_text (codes " cylinder") (cx ∷ cz ∷ r ∷ y0 ∷ y1 ∷ []))
    (worded (codes "add area") (area ∷ []) refl) (worded (codes " cylinder") (cx ∷ cz ∷ r ∷ y0 ∷ y1 ∷ []) refl)
shape_plain (Prism base area y0 y1) = refl
shape_plain (Disc cx cz r area y0 y1) = refl

request_plain : (request : Request) → is_line (request_spelling request) ≡ true
request_plain (Add shape) = shape_plain shape
request_plain (Remove number) = worded (codes "remove") (number ∷ []) refl

-- what comes before the outcome in an entry's line
abbrev entry_front : ℕ → Entry → List ℕ
entry_front number entry = codes "entry " ++ decimal number ++ codes " " ++ decimal entry.lane ++ codes " " ++ request_spelling entry.request

entry_plain : (number : ℕ) (entry : Entry) → is_line (entry_front number entry) ≡ true
entry_plain number entry =
    let first = is_line-append (codes "entry ") (decimal number) refl (is_line-decimal number) in
    let spaced = is_line-append (codes "entry " ++ decimal number) (codes " ") first refl in
    let second = is_line-append (codes "entry " ++ decimal number ++ codes " ") (decimal entry.lane) spaced (is_line-decimal entry.lane) in
    let again = is_line-append (codes "entry " ++ decimal number ++ codes " " ++ decimal entry.lane) (codes " ") second refl in
    is_line-append (codes "entry " ++ decimal number ++ codes " " ++ decimal entry.lane ++ codes " ") (request_spelling entry.request) again (request_plain entry.request)

outcome_ends : (front : List ℕ) (reply : Reply) → is_line front ≡ true → IsOneLine (front ++ outcome_text reply)
outcome_ends front (Added _) plain = ends front (codes " added") (codes " added\n") refl plain refl
outcome_ends front Removed plain = ends front (codes " removed") (codes " removed\n") refl plain refl
outcome_ends front (Full live) plain =
    ends front (codes " full " ++ decimal live) (codes " full " ++ decimal live ++ codes "\n") refl plain (is_line-append (codes " full ") (decimal live) refl (is_line-decimal live))
outcome_ends front (Dead number) plain =
    ends front (codes " dead " ++ decimal number) (codes " dead " ++ decimal number ++ codes "\n") refl plain (is_line-append (codes " dead ") (decimal number) refl (is_line-decimal number))

pub reply_line : (number : ℕ) (reply : Reply) → IsOneLine (reply_text number reply)
reply_line number reply = outcome_ends (codes "entry " ++ decimal number) reply (is_line-append (codes "entry ") (decimal number) refl (is_line-decimal number))

pub entry_line : (number : ℕ) (entry : Entry) → IsOneLine (entry_text number entry)
entry_line number entry = outcome_ends (entry_front number entry) entry.reply (entry_plain number entry)

pub history_line : (n : ℕ) → IsOneLine (history_text n)
history_line n = numbered (codes "history ") [] n refl refl

pub lane_line : (lane : ℕ) → IsOneLine (lane_text lane)
lane_line lane = numbered (codes "lane ") [] lane refl refl

pub final_line : (n polygons links : ℕ) → IsOneLine (final_text n polygons links)
final_line n polygons links =
    let first = is_line-append (codes "final ") (decimal n) refl (is_line-decimal n) in
    let spaced = is_line-append (codes "final " ++ decimal n) (codes " ") first refl in
    let second = is_line-append (codes "final " ++ decimal n ++ codes " ") (decimal polygons) spaced (is_line-decimal polygons) in
    let again = is_line-append (codes "final " ++ decimal n ++ codes " " ++ decimal polygons) (codes " ") second refl in
    let third = is_line-append (codes "final " ++ decimal n ++ codes " " ++ decimal polygons ++ codes " ") (decimal links) again (is_line-decimal links) in
    (codes "final " ++ decimal n ++ codes " " ++ decimal polygons ++ codes " " ++ decimal links, refl, third)
