use Rattle.std.proofs.Common.{◌≡◌, ℕ, ◌+◌, ◌∙◌, List, [], map, ap, sym, subst, arith}
use Rattle.std.specs.Prelude.{max}
use Rattle.obstacle_registry.specs.declared.row.Registered.{Registered}
use Rattle.obstacle_registry.specs.Registry.{RegistryState, alive_now}
use Rattle.obstacle_registry.specs.Restoring.{AreOffRows, AreSwitchedOn, AreToSwitch, with_rows}
use Rattle.obstacle_registry.specs.Saving.{row_off}
use Rattle.obstacle_registry.proofs.RestoreLaws.{free_of, off_rows, restored, to_switch}
use Rattle.obstacle_registry.proofs.registry.Registry.restore_saved.Goals as goal

pub put_rows-requires-clause-rows : goal.put_rows-requires-clause-rows
put_rows-requires-clause-rows c =
    subst (AreOffRows c.max-last.result) (sym (c.in-Ok.ensures ∙ ap (map row_off) c.as_slice.ensures))
    (off_rows c.args.saved.now c.max-last.result c.requires.rules (omega (arith, c.max-last.ensures)))

pub switch_on_all-requires-clause-places : goal.switch_on_all-requires-clause-places
switch_on_all-requires-clause-places c =
    let free = free_of c.args.self.now c.args.saved.now (sym c.why_not_restored.ensures ∙ c.in_default.is) in
    let rows = c.in-Ok.ensures ∙ ap (map row_off) c.as_slice.ensures in
    let made = c.put_rows.ensures.state
    ∙ ap (λ (list : List Registered). with_rows c.args.self.now list c.max-last.result (c.max-version.result + 1)) rows in
    let none : alive_now (with_rows c.args.self.now (map row_off c.args.saved.now.rows) c.max-last.result (c.max-version.result + 1)).book ≡ [] =
    subst (λ (s : RegistryState). alive_now s.book ≡ []) made c.put_rows.ensures.none in
    subst (λ (places : List ℕ). AreToSwitch c.put_rows.new.self places) (sym c.as_slice-2.ensures)
    (subst (λ (s : RegistryState). AreToSwitch s c.args.saved.now.on) (sym made)
    (to_switch c.args.self.now c.args.saved.now c.max-last.result (c.max-version.result + 1) c.requires.rules free none))

pub returns-clause-end : goal.returns-clause-end
returns-clause-end c =
    let none = sym c.why_not_restored.ensures ∙ c.in_default.is in
    let rows = c.in-Ok.ensures ∙ ap (map row_off) c.as_slice.ensures in
    let made = c.put_rows.ensures.state
    ∙ ap (λ (list : List Registered). with_rows c.args.self.now list c.max-last.result (c.max-version.result + 1)) rows in (
      none,
      restored c.args.saved.now c.args.self.now c.put_rows.new.self c.switch_on_all.new.self c.max-last.result (c.max-version.result + 1)
          (free_of c.args.self.now c.args.saved.now none)
          (c.max-last.ensures ∙ ap (λ (s : RegistryState). max s.last c.args.saved.now.last) c.self.view_is)
          (ap (λ n. n + 1) (c.max-version.ensures ∙ ap (λ (s : RegistryState). max s.version c.args.saved.now.version) c.self.view_is))
          made
          (subst (λ (places : List ℕ). AreSwitchedOn places c.put_rows.new.self c.switch_on_all.new.self) c.as_slice-2.ensures c.switch_on_all.ensures.switched),
    )
