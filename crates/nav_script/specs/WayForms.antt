-- The forms of lines that stand only in a script to be played, or only in one that runs live, and what any line says.
use Rattle.std.specs.Prelude.{ℕ, ◌&&◌, List, [], ◌∷◌, slice_index, codes, Option, Ok, Err, unwrap_or}
use Rattle.nav_text.specs.declared.fault.FaultKind.TheVariants as kinds
use Rattle.nav_script.specs.declared.script.Line.TheVariants.{Lane, Remove, Settle, Aim, Claim, Back, Submit, Publish, Jump, Hop, Send, March}
use Rattle.nav_script.specs.declared.script.Way.{Way}
use Rattle.nav_script.specs.declared.script.Way.TheVariants.{Play, Live}
use Rattle.nav_script.specs.Forms.{LineRead, in_limits, below_count, is_range, form, first_of_them, lane_line}
use Rattle.nav_script.specs.QuestionForms.{floor_line, path_line, ray_line, point_at, are_standing, question_line}
use Rattle.nav_script.specs.RequestForms.{block_line, cylinder_line, drop_line, request_line, area_line}

-- what a line says that leads workers, of which there are so many
unfoldable pub worker_line : ℕ → List ℕ → Option LineRead
worker_line workers line =
    first_of_them (form (codes "claim") 1 (λ n. below_count (slice_index n 0) workers (Claim (slice_index n 0))) line
    ∷ form (codes "submit") 1 (λ n. below_count (slice_index n 0) workers (Submit (slice_index n 0))) line
    ∷ form (codes "back") 1 (λ n. below_count (slice_index n 0) workers (Back (slice_index n 0))) line
    ∷ form (codes "aim") 0 (λ n. Ok Aim) line
    ∷ form (codes "publish") 0 (λ n. Ok Publish) line
    ∷ [])

-- a jump: its two points with their heights, and its cost from 1 to 1000000
abbrev pub jump_line : List ℕ → LineRead
jump_line n =
    in_limits
    (are_standing n && is_range 1 (slice_index n 6) 1000000)
    (Jump (record {
      from = point_at (slice_index n 0) (slice_index n 1);
      from_y = slice_index n 2;
      to = point_at (slice_index n 3) (slice_index n 4);
      to_y = slice_index n 5;
      cost = slice_index n 6;
    }))

-- the question for a hop walk, with the numbers of one for a path
abbrev pub hop_line : List ℕ → LineRead
hop_line n =
    in_limits
    (are_standing n)
    (Hop (point_at (slice_index n 0) (slice_index n 1)) (slice_index n 2) (point_at (slice_index n 3) (slice_index n 4)) (slice_index n 5))

-- a line that declares a jump or asks for a hop walk
unfoldable pub jump_or_hop : List ℕ → Option LineRead
jump_or_hop line =
    first_of_them (form (codes "jump") 7 jump_line line ∷ form (codes "hop") 6 hop_line line ∷ [])

-- a walker of a lane, with the numbers of a question for a path
abbrev pub send_line : List ℕ → LineRead
send_line n =
    in_limits
    (are_standing n)
    (Send (point_at (slice_index n 0) (slice_index n 1)) (slice_index n 2) (point_at (slice_index n 3) (slice_index n 4)) (slice_index n 5))

-- a march of 1 to 65535 sixteenths
abbrev pub march_line : ℕ → LineRead
march_line length = in_limits (is_range 1 length 65535) (March length)

-- a line that sends a walker or lets it march
unfoldable pub walker_line : List ℕ → Option LineRead
walker_line line =
    first_of_them (form (codes "send") 6 send_line line ∷ form (codes "march") 1 (λ n. march_line (slice_index n 0)) line ∷ [])

-- the lines that lead workers, declare jumps or ask for hop walks are of no form where the script runs live, and those of walkers where it is played
abbrev pub way_line : Way → ℕ → List ℕ → Option LineRead
way_line Play workers line = first_of_them (worker_line workers line ∷ jump_or_hop line ∷ [])
way_line Live workers line = walker_line line

-- what a line of a script says, its forms read in groups
abbrev pub read_in_groups : Way → (lanes workers adds : ℕ) → List ℕ → LineRead
read_in_groups way lanes workers adds line =
    unwrap_or
    (first_of_them (question_line line ∷ request_line adds line ∷ area_line line ∷ lane_line lanes line ∷ way_line way workers line ∷ []))
    (Err kinds.Line)

-- the forms of a line that stands only in a script to be played, or only in one that runs live
abbrev pub way_forms : Way → ℕ → List ℕ → List (Option LineRead)
way_forms Play workers line =
    form (codes "claim") 1 (λ n. below_count (slice_index n 0) workers (Claim (slice_index n 0))) line
    ∷ form (codes "submit") 1 (λ n. below_count (slice_index n 0) workers (Submit (slice_index n 0))) line
    ∷ form (codes "back") 1 (λ n. below_count (slice_index n 0) workers (Back (slice_index n 0))) line
    ∷ form (codes "aim") 0 (λ n. Ok Aim) line
    ∷ form (codes "publish") 0 (λ n. Ok Publish) line
    ∷ jump_or_hop line
    ∷ []
way_forms Live workers line = walker_line line ∷ []

-- all forms of a line: questions, changes of the obstacles, `settle`, the lane of the lines that follow, and those of the way
abbrev pub line_forms : Way → (lanes workers adds : ℕ) → List ℕ → List (Option LineRead)
line_forms way lanes workers adds line =
    form (codes "floor") 2 floor_line line
    ∷ form (codes "path") 6 path_line line
    ∷ form (codes "ray") 5 ray_line line
    ∷ form (codes "add block") 6 block_line line
    ∷ form (codes "add cylinder") 5 cylinder_line line
    ∷ form (codes "remove") 1 (λ n. Ok (Remove (slice_index n 0))) line
    ∷ form (codes "drop") 1 (λ n. drop_line adds (slice_index n 0)) line
    ∷ area_line line
    ∷ form (codes "settle") 0 (λ n. Ok Settle) line
    ∷ form (codes "lane") 1 (λ n. below_count (slice_index n 0) lanes (Lane (slice_index n 0))) line
    ∷ way_forms way workers line

-- what a line of a script says; of no form, it is wrong as a line
abbrev pub line_read : Way → (lanes workers adds : ℕ) → List ℕ → LineRead
line_read way lanes workers adds line = unwrap_or (first_of_them (line_forms way lanes workers adds line)) (Err kinds.Line)
