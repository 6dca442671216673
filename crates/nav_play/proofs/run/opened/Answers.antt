use Rattle.std.proofs.Common.{◌∙◌, ℕ, List, ap, length, subst, sym, [], arith, None, Option}
use Rattle.nav_ground.specs.declared.history.Ground.{Ground}
use Rattle.nav_ground.specs.Grounds.{IsGround}
use Rattle.tile_build.specs.Meshes.{tiles_under}
use Rattle.std.proofs.lemmas.List.{length-replicate}
use Rattle.build_queue.specs.BookState.{first_state}
use Rattle.nav_book.specs.declared.book.TileResult.{TileResult}
use Rattle.nav_play.proofs.Arms.{no_jumps}
use Rattle.nav_play.proofs.Held.{held_none}
use Rattle.nav_play.proofs.Playing.{begun_state}
use Rattle.nav_play.proofs.run.opened.Goals as goal

pub returns-clause-state : goal.returns-clause-state
returns-clause-state g c =
    begun_state c.args.script.now _ _ _ _ _ (c.in_ok-book.ensures.state ∙ ap first_state c.in_ok-new.ensures.ok) c.in_ok-adds.ensures c.in_ok-workers.ensures
    c.without_jumps.ensures

pub returns-clause-begun : goal.returns-clause-begun
returns-clause-begun g c =
    let lanes = ap length c.in_ok-adds.ensures ∙ length-replicate {A = List ℕ} c.args.script.now.lanes [] in
    record {
      lanes = lanes;
      workers = ap length c.in_ok-workers.ensures ∙ length-replicate {A = Option TileResult} c.args.script.now.workers None;
      text = c.new-4.ensures.items;
      totals = c.nothing.ensures;
      jumps = c.without_jumps.ensures;
      steady = record {
        lane = omega (arith, lanes, c.requires.script.lanes_least);
        held = held_none _ _ c.args.script.now.workers c.in_ok-workers.ensures;
        jumps = no_jumps _ c.without_jumps.ensures;
      };
    }

pub begin-requires-clause-level : goal.begin-requires-clause-level
begin-requires-clause-level g c = subst IsGround (sym c.in_ok-new.ensures.ok) c.requires.level

pub begin-requires-clause-tiles : goal.begin-requires-clause-tiles
begin-requires-clause-tiles g c = c.requires.tiles ∙ ap (λ (ground : Ground). tiles_under ground []) (sym c.in_ok-new.ensures.ok)
