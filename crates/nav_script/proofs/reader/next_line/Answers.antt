use Rattle.std.proofs.Common.{◌∙◌, ap, sym, arith}
use Rattle.std.proofs.lemmas.Bool.Decides.{nat_tests}
use Rattle.std.proofs.lemmas.Result.{IfOk-weaker}
use Rattle.nav_script.specs.WayForms.{read_in_groups}
use Rattle.nav_script.proofs.ReaderLaws.{verdict_full, verdict_room, verdict_jumps, verdict_read}
use Rattle.nav_script.proofs.reader.next_line.Goals as goal

pub returns-then-is_full-clause-value : goal.returns-then-is_full-clause-value
returns-then-is_full-clause-value c =
    sym (verdict_full c.args.way c.args.header.lanes c.args.header.workers c.args.progress.now c.args.line.now (sym c.if-is_full.ensures))

pub returns-then-lacks_room-clause-value : goal.returns-then-lacks_room-clause-value
returns-then-lacks_room-clause-value c =
    sym (verdict_room c.args.way c.args.header.lanes c.args.header.workers c.args.progress.now c.args.line.now (sym c.if-is_full.ensures) (sym c.if-lacks_room.ensures))

pub returns-then-lacks_jumps-clause-value : goal.returns-then-lacks_jumps-clause-value
returns-then-lacks_jumps-clause-value c =
    sym (verdict_jumps c.args.way c.args.header.lanes c.args.header.workers c.args.progress.now c.args.line.now (sym c.if-is_full.ensures)
    (sym c.if-lacks_room.ensures) (sym c.if-lacks_jumps.ensures))

pub returns-clause-value : goal.returns-clause-value
returns-clause-value c =
    sym (verdict_read c.args.way c.args.header.lanes c.args.header.workers c.args.progress.now c.args.line.now c.read_line.result (sym c.if-is_full.ensures)
    (sym c.if-lacks_room.ensures)
    (sym c.if-lacks_jumps.ensures)
    (c.read_line.ensures.value ∙ ap (λ adds. read_in_groups c.args.way c.args.header.lanes c.args.header.workers adds c.args.line.now) c.adds_here.ensures))

pub returns-clause-room : goal.returns-clause-room
returns-clause-room c =
    let room = sym c.if-is_full.ensures in IfOk-weaker c.read_line.result _ _ (λ line _. grind (arith, nat_tests)) c.read_line.ensures.lane
