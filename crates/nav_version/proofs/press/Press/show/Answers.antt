use Rattle.std.proofs.Common.{◌≡◌, ◌++◌, List, Some, length, drop, ap, sym, subst, ◌∙◌, rules}
use Rattle.std.proofs.lemmas.List.{take_rest}
use Rattle.nav_ground.specs.declared.history.Entry.{Entry}
use Rattle.nav_version.specs.declared.version.PublishedVersion.{PublishedVersion}
use Rattle.nav_version.specs.Pairs.{PressView}
use Rattle.nav_version.specs.VersionRule.{IsKept}
use Rattle.nav_version.proofs.PressLaws.{GoesOn-grown, IsKept-grown, IsShown-grown, all_added, left_behind}
use Rattle.nav_version.proofs.press.Press.show.Goals as goal

pub show-shown-requires-clause-is : goal.show-shown-requires-clause-is
show-shown-requires-clause-is g c =
    let next : PublishedVersion = record { version = c.args.next; told = c.told-told.result } in
    let before = c.self.inside.stage.told in
    let is : c.self.inside.ahead ≡ Some c.in-Some.ahead = search rules in
    let begun : c.args.more ≡ c.in-Some.ahead ++ drop (length c.in-Some.ahead) c.args.more = search rules in
    let added : c.add.new.self.entries ≡ c.self.inside.history.entries ++ drop (length c.in-Some.ahead) c.args.more =
    c.if-not-add.ensures.grown ∙ ap (λ (list : List Entry). c.self.inside.history.entries ++ list)
    (take_rest c.as_slice-3.result.now c.len.result ∙ (λ i. drop (c.len.ensures i) (c.as_slice-3.ensures i))) in
    let kept : IsKept before c.self.inside.history (Some c.in-Some.ahead) = subst (IsKept before c.self.inside.history) is c.self.invariant in
    let entries : c.args.next.entries ≡ before.entries ++ c.args.more = c.requires.entries ∙ ap (λ (press : PressView). press.entries ++ c.args.more) (sym c.self.view_is) in
    IsShown-grown before c.add.new.self next c.args.more c.requires.rules c.told-told.ensures
    (all_added before c.self.inside.history c.add.new.self c.in-Some.ahead c.args.more (drop (length c.in-Some.ahead) c.args.more) kept begun added) entries

pub show-shown-requires-clause-goes_on : goal.show-shown-requires-clause-goes_on
show-shown-requires-clause-goes_on g c =
    let next : PublishedVersion = record { version = c.args.next; told = c.told-told.result } in
    GoesOn-grown c.self.inside.stage next c.self.inside.history c.add.new.self c.self.inside.ahead c.self.invariant c.add.ensures.pair c.add.ensures.begins
    c.told-told.ensures (c.requires.ground ∙ ap (λ (press : PressView). press.ground) (sym c.self.view_is))

pub invariant_of-self-2 : goal.invariant_of-self-2
invariant_of-self-2 g c =
    let before = c.self.inside.stage in
    let is : c.self.inside.ahead ≡ Some c.in-Some.ahead = search rules in
    let begun : c.args.more ≡ c.in-Some.ahead ++ drop (length c.in-Some.ahead) c.args.more = search rules in
    let added : c.add.new.self.entries ≡ c.self.inside.history.entries ++ drop (length c.in-Some.ahead) c.args.more =
    c.if-not-add.ensures.grown ∙ ap (λ (list : List Entry). c.self.inside.history.entries ++ list)
    (take_rest c.as_slice-3.result.now c.len.result ∙ (λ i. drop (c.len.ensures i) (c.as_slice-3.ensures i))) in
    let kept : IsKept before.told c.self.inside.history (Some c.in-Some.ahead) = subst (IsKept before.told c.self.inside.history) is c.self.invariant in
    IsKept-grown before c.show-shown.new.self (record { version = c.args.next; told = c.told-told.result }) c.self.inside.history c.add.new.self c.in-Some.ahead c.args.more
    (Some c.left_ahead.result) c.show-shown.result kept c.add.ensures.pair c.add.ensures.begins
    (all_added before.told c.self.inside.history c.add.new.self c.in-Some.ahead c.args.more (drop (length c.in-Some.ahead) c.args.more) kept begun added)
    c.told-told.ensures (left_behind c.left_ahead.result c.args.more c.show-shown.result c.left_ahead.ensures) c.show-shown.ensures.shown
