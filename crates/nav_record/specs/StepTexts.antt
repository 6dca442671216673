-- The texts of the steps of a book, each with its line feed: what each came to.
use Rattle.std.specs.Prelude.{ℕ, List, ◌++◌, codes, decimal}
use Rattle.nav_record.specs.declared.step.StepAnswer.{StepAnswer}
use Rattle.nav_record.specs.declared.step.StepAnswer.TheVariants.{Aim, Claimed, NoTile, Busy, Idle, Back, Taken, Stale, Published, Same, NotYet, Settled, HistoryFull}

-- what a step came to, with the worker, the tile or the length that it names
abbrev pub step_text : StepAnswer → List ℕ
step_text (Aim k) = codes "aim " ++ decimal k ++ codes "\n"
step_text (Claimed worker tile) = codes "claim " ++ decimal worker ++ codes " tile " ++ decimal tile ++ codes "\n"
step_text (NoTile worker) = codes "claim " ++ decimal worker ++ codes " none\n"
step_text (Busy worker) = codes "busy " ++ decimal worker ++ codes "\n"
step_text (Idle worker) = codes "idle " ++ decimal worker ++ codes "\n"
step_text (Back worker tile) = codes "back " ++ decimal worker ++ codes " tile " ++ decimal tile ++ codes "\n"
step_text (Taken worker tile) = codes "submit " ++ decimal worker ++ codes " taken " ++ decimal tile ++ codes "\n"
step_text (Stale worker tile) = codes "submit " ++ decimal worker ++ codes " stale " ++ decimal tile ++ codes "\n"
step_text (Published k) = codes "published " ++ decimal k ++ codes "\n"
step_text (Same k) = codes "same " ++ decimal k ++ codes "\n"
step_text (NotYet tile) = codes "notyet " ++ decimal tile ++ codes "\n"
step_text (Settled k) = codes "settled " ++ decimal k ++ codes "\n"
step_text (HistoryFull len) = codes "history full " ++ decimal len ++ codes "\n"
