use Rattle.std.proofs.Common.{◌≡◌, ℕ, sym, subst}
use Rattle.std.specs.Prelude.{true}
use Rattle.path_queries.specs.Filters.{is_open}
use Rattle.kept_paths.proofs.AreaLaws.{own-area, small-area, some-area, there-area}
use Rattle.kept_paths.proofs.leads.enters_by.Goals as goal

pub is_open_area-requires : goal.is_open_area-requires
is_open_area-requires c = small-area c.args.mesh.now c.args.link.now.to c.args.entered c.requires.sound c.requires.entered

pub returns : goal.returns
returns c =
    let mesh = c.args.mesh.now in
    let at = c.args.link.now.to in
    let extent = c.args.entered in (
      λ is.
          let held = c.is_open_area.ensures.0 is in
          let there = there-area mesh at extent c.requires.sound c.requires.entered held.0 in
          record {
            polygon = there.0;
            there = there.1;
            area_open = subst (λ (area : ℕ). is_open c.args.areas area ≡ true)
                (sym (own-area mesh at extent c.requires.sound c.requires.entered there.0 there.1)) held.1;
          },
      λ enters. c.is_open_area.ensures.1 (
        some-area mesh at extent c.requires.sound c.requires.entered enters.polygon enters.there,
        subst (λ (area : ℕ). is_open c.args.areas area ≡ true)
            (own-area mesh at extent c.requires.sound c.requires.entered enters.polygon enters.there) enters.area_open,
      ),
    )
