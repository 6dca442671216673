-- What a run of a live script may write: one history that all lanes share, and for each lane what its lines were answered.
use Rattle.std.specs.Prelude.{◌≡◌, ℕ, ◌<◌, List, [], ◌++◌, length, flat_map, map, get_or, All}
use Rattle.std.specs.List.{enumerate_from}
use Rattle.nav_ground.specs.declared.history.Entry.{Entry}
use Rattle.nav_ground.specs.declared.history.Ground.{Ground}
use Rattle.nav_ground.specs.History.{IsHistory}
use Rattle.mesh_types.specs.Builds.{build_of}
use Rattle.mesh_types.specs.Soundness.{link_count, polygon_count}
use Rattle.nav_record.specs.FrameTexts.{history_text, lane_text, final_text}
use Rattle.nav_record.specs.EntryTexts.{entry_text}
use Rattle.nav_script.specs.declared.script.Script.{Script}
use Rattle.nav_script.specs.Lanes.{lines_of}
use Rattle.nav_live.specs.LaneEntries.{Spoken}
use Rattle.nav_live.specs.LaneRecords.{IsLane}
use Rattle.nav_live.specs.LaneTexts.{told_text}

-- the lines of a history: one for each entry, with its number, from 1
abbrev pub entries_text : List Entry → List ℕ
entries_text history = flat_map (λ (entry : ℕ × Entry). entry_text entry.0 entry.1) (enumerate_from 1 history)

-- a lane: its number, and then what was told of its lines
abbrev pub lane_lines : ℕ × List ℕ → List ℕ
lane_lines lane = lane_text lane.0 ++ lane.1

-- the live text of a history and of what was told of the lanes' lines, the lanes in the order of their numbers. Its last line has the length
-- of the history, and the counts of the mesh of the ground with the obstacles that all entries leave
abbrev pub live_text : Ground → List Entry → List (List ℕ) → List ℕ
live_text ground history told =
    history_text (length history) ++ (entries_text history ++ (flat_map lane_lines (enumerate_from 0 told)
    ++ final_text (length history) (polygon_count (build_of ground history (length history)).tiles) (link_count (build_of ground history (length history)))))

-- a run of a live script over a ground may write a text. The history in it is well replied; each lane's lines say what they may, given that
-- history; and no entry of it is of another lane
pub record LiveRecord (ground : Ground) (script : Script) (text : List ℕ) : Type 0 where
  pub history : List Entry
  pub lanes : List (List Spoken)
  pub replied : IsHistory ground.setting.limit history
  pub count : length lanes ≡ script.lanes
  pub each : (lane : ℕ) → lane < script.lanes → IsLane ground history lane (lines_of lane script.lines) (get_or lanes lane [])
  pub others : All (λ (entry : Entry). entry.lane < script.lanes) history
  pub written : text ≡ live_text ground history (map told_text lanes)
