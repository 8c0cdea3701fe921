-- What a row over real numbers answered, by its result.
--     answered_by
use Rattle.std.specs.Prelude.{Result, Ok, Err, IfOk, OnErr}
use Rattle.host_tables.specs.declared.attempt.Attempt.{Attempt}
use Rattle.host_tables.specs.declared.attempt.Attempt.TheVariants as answer
use Rattle.wrap_sockets.specs.Replies.{reply_of, Answered}

pub answered_by : {E : Type 0} (Does : Attempt → Type 0) (Stays : Type 0) (r : Result Attempt E) → IfOk r Does
    → OnErr r Stays → Answered Does Stays (reply_of r)
answered_by Does Stays (Ok (answer.Gives n)) does stays = does
answered_by Does Stays (Ok (answer.Fails e)) does stays = does
answered_by Does Stays (Ok answer.NotReady) does stays = does
answered_by Does Stays (Err e) does stays = stays
