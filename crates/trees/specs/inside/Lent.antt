-- What the rules ask of letters as they are lent.
use Rattle.schedule.specs.declared.LentLetters.{LentLetters}
use Rattle.trees.specs.Rules.{Frame}
use Rattle.trees.specs.Frames.{schedule_frame}

abbrev pub frame_of : LentLetters → Frame
frame_of letters = schedule_frame letters.prefix.now letters.looped.now
