use Rattle.std.proofs.Common.{◌≡◌, ap, ◌∙◌, sym, refl, arith}
use Rattle.std.proofs.lemmas.Bool.{eq-eqb}
use Rattle.mono_regions.specs.declared.touching.SeenStrips.TheVariants.{Nothing, One, Several}
use Rattle.mono_regions.specs.Seeing.{is_one, touched_by}
use Rattle.mono_regions.specs.Joining.{touched_from}
use Rattle.mono_regions.proofs.JoinLaws.{one_small, joined_one, joined_else, joined_unseen}
use Rattle.mono_regions.proofs.Tabled.{tabled_count, tabled_run, tabled_indices}
use Rattle.mono_regions.proofs.joins.joined_strip.Goals as goal

pub list-run-requires : goal.list-run-requires
list-run-requires c = omega (arith, tabled_count c.args.cells.now c.args.strips.now c.requires.strips, c.requires.there)

pub touched-requires-clause-run : goal.touched-requires-clause-run
touched-requires-clause-run c =
    tabled_indices c.args.cells.now c.args.strips.now c.requires.strips c.args.lower _ c.list-run.ensures c.requires.there

pub is_joined-requires-clause-upper : goal.is_joined-requires-clause-upper
is_joined-requires-clause-upper c =
    one_small c.args.cells.now 1 c.args.lower c.in-One.upper
    (ap (touched_by c.args.cells.now 1) (sym (tabled_run c.args.cells.now c.args.strips.now c.requires.strips c.args.lower _ c.list-run.ensures))
    ∙ sym c.touched.ensures ∙ c.in-One.is)

pub is_joined-requires-clause-only : goal.is_joined-requires-clause-only
is_joined-requires-clause-only c =
    ap (is_one c.in-One.upper)
    (ap (touched_by c.args.cells.now 1) (sym (tabled_run c.args.cells.now c.args.strips.now c.requires.strips c.args.lower _ c.list-run.ensures))
    ∙ sym c.touched.ensures ∙ c.in-One.is)
    ∙ eq-eqb c.in-One.upper c.in-One.upper refl

pub returns-then-is_joined : goal.returns-then-is_joined
returns-then-is_joined c =
    let cells = c.args.cells.now in
    let seen : touched_from cells 1 c.args.lower ≡ One c.in-One.upper =
    ap (touched_by cells 1) (sym (tabled_run cells c.args.strips.now c.requires.strips c.args.lower _ c.list-run.ensures)) ∙ sym c.touched.ensures ∙ c.in-One.is in
    sym (joined_one cells c.requires.strips.cut c.args.lower c.in-One.upper c.requires.there (one_small cells 1 c.args.lower c.in-One.upper seen)
    (sym c.is_joined.ensures ∙ c.if-is_joined.true))

pub returns-else-is_joined : goal.returns-else-is_joined
returns-else-is_joined c =
    let cells = c.args.cells.now in
    let seen : touched_from cells 1 c.args.lower ≡ One c.in-One.upper =
    ap (touched_by cells 1) (sym (tabled_run cells c.args.strips.now c.requires.strips c.args.lower _ c.list-run.ensures)) ∙ sym c.touched.ensures ∙ c.in-One.is in
    sym (joined_else cells c.requires.strips.cut c.args.lower c.in-One.upper c.requires.there seen (sym c.is_joined.ensures ∙ c.if-is_joined.false))

pub returns-in-Nothing : goal.returns-in-Nothing
returns-in-Nothing c =
    let cells = c.args.cells.now in
    let seen : touched_from cells 1 c.args.lower ≡ Nothing =
    ap (touched_by cells 1) (sym (tabled_run cells c.args.strips.now c.requires.strips c.args.lower _ c.list-run.ensures)) ∙ sym c.touched.ensures ∙ c.in-Nothing.is in
    sym (joined_unseen cells c.requires.strips.cut c.args.lower c.requires.there (λ t. ap (is_one t) seen))

pub returns-in-Several : goal.returns-in-Several
returns-in-Several c =
    let cells = c.args.cells.now in
    let seen : touched_from cells 1 c.args.lower ≡ Several =
    ap (touched_by cells 1) (sym (tabled_run cells c.args.strips.now c.requires.strips c.args.lower _ c.list-run.ensures)) ∙ sym c.touched.ensures ∙ c.in-Several.is in
    sym (joined_unseen cells c.requires.strips.cut c.args.lower c.requires.there (λ t. ap (is_one t) seen))
