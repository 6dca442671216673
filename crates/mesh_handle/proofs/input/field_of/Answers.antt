use Rattle.std.proofs.Common.{List, [], Err, sym, ap, subst}
use Rattle.nav_ground.specs.declared.setting.Setting.{Setting}
use Rattle.tri_raster.specs.declared.triangle.Tri.{Tri}
use Rattle.tri_raster.specs.Rasters.{HasManySpans}
use Rattle.mesh_input.specs.Adding.{AreAdded, lists_of}
use Rattle.mesh_handle.proofs.EndLaws.{ends_of}
use Rattle.mesh_handle.proofs.input.field_of.Goals as goal

pub returns-in-Err-clause-refused : goal.returns-in-Err-clause-refused
returns-in-Err-clause-refused c =
    ends_of c.args.mesh.now (lists_of c.args.vertices.now c.args.corners.now c.args.areas.now) c.in-Some.ask c.in-Err.end
    (record { asked = c.in-Some.ensures.found; arrays = c.if-not-are_whole.ensures }) c.in-Err.ensures.refused

pub returns-in-Ok-raster-clause-found : goal.returns-in-Ok-raster-clause-found
returns-in-Ok-raster-clause-found c =
    let ask = c.in-Some.ask in
    let lists = lists_of c.args.vertices.now c.args.corners.now c.args.areas.now in
    record {
      setting = c.in-Some.ensures.found.setting;
      tris = c.as_slice.result.now;
      are = record {
        ask = ask;
        can = record { asked = c.in-Some.ensures.found; arrays = c.if-not-are_whole.ensures };
        are = subst (λ (tris : List Tri). AreAdded ask.grid ask.slope lists [] tris) (sym c.as_slice.ensures.value) c.in-Ok.ensures.made;
      };
      raster = c.in-Ok-raster.ensures.field;
    }

pub returns-in-Err-TooManySpans-clause-refused : goal.returns-in-Err-TooManySpans-clause-refused
returns-in-Err-TooManySpans-clause-refused c =
    let ask = c.in-Some.ask in
    let lists = lists_of c.args.vertices.now c.args.corners.now c.args.areas.now in
    record {
      tris = c.as_slice.result.now;
      are = record {
        ask = ask;
        can = record { asked = c.in-Some.ensures.found; arrays = c.if-not-are_whole.ensures };
        are = subst (λ (tris : List Tri). AreAdded ask.grid ask.slope lists [] tris) (sym c.as_slice.ensures.value) c.in-Ok.ensures.made;
      };
      many = subst (λ (setting : Setting). HasManySpans setting c.as_slice.result.now) c.in-Some.ensures.found.setting
          (c.in-Err-TooManySpans.ensures.many (ap Err c.in-Err-TooManySpans.field-0-is));
    }
