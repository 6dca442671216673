use Rattle.std.proofs.Common.{ap, sym, ℕ, ◌+◌, List, ◌++◌, codes, decimal, length, take, drop}
use Rattle.std.specs.List.{flat_map}
use Rattle.std.proofs.lemmas.List.{append-nil, take_all}
use Rattle.nav_base.specs.declared.point.FloorAt.{FloorAt}
use Rattle.nav_record.specs.AnswerTexts.{floor_text}
use Rattle.nav_text.proofs.AppendLaws.{extended, spelled, and_then, longer, handed, one_more, and_rest}
use Rattle.nav_record.proofs.answer.append_floors.Goals as goal

-- what stands before the floors
abbrev head : ℕ → List FloorAt → List ℕ
head k floors = codes "floors " ++ decimal k ++ codes " " ++ decimal (length floors)

pub returns-in_err-append_fields : goal.returns-in_err-append_fields
returns-in_err-append_fields c =
    let floors = c.args.floors.now in
    handed _ _ c.from_residual.ensures.0 (longer _ (codes "\n") (longer (head c.args.k floors) (flat_map floor_text floors) c.in_err-append_fields.ensures))

pub loop-floor-init : goal.loop-floor-init
loop-floor-init c = spelled _ _ (sym (append-nil (head c.args.k c.args.floors.now))) c.in_ok-append_fields.ensures

pub loop-floor-preserved : goal.loop-floor-preserved
loop-floor-preserved c =
    let i = c.loop-floor.floor-index in
    let floors = c.args.floors.now in
    let so_far = head c.args.k floors ++ flat_map floor_text (take i floors) in
    spelled _ _ (one_more floor_text (head c.args.k floors) floors i _ c.loop-floor-test.true) (and_then so_far _ c.loop-floor.invariant c.in_ok-append_fields-2.ensures)

pub returns-in_err-append_fields-2 : goal.returns-in_err-append_fields-2
returns-in_err-append_fields-2 c =
    let i = c.loop-floor.floor-index in
    let floors = c.args.floors.now in
    let so_far = head c.args.k floors ++ flat_map floor_text (take i floors) in
    handed _ _ c.from_residual-in_err-append_fields-2.ensures.0
    (longer _ (codes "\n") (spelled _ _ (and_rest floor_text (head c.args.k floors) floors i _ c.loop-floor-test.true)
    (longer _ (flat_map floor_text (drop (i + 1) floors)) (and_then so_far _ c.loop-floor.invariant c.in_err-append_fields-2.ensures))))

pub returns : goal.returns
returns c =
    let floors = c.args.floors.now in
    let all = ap (λ ys. head c.args.k floors ++ flat_map floor_text ys) (take_all c.loop-floor.floor-index floors c.loop-floor-test.false) in
    let taken = c.extend_from_slice.ensures in
    and_then _ (codes "\n") (spelled _ _ all c.loop-floor.invariant) (extended _ _ _ (codes "\n") taken.items taken.capacity taken.succeeds)
