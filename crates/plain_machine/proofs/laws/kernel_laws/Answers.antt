use Rattle.plain_machine.proofs.WholeChanges.{whole_take, whole_raise, whole_raise_for_all, whole_next_thread, whole_arrival}
use Rattle.plain_machine.proofs.WholeClosing.{whole_close}
use Rattle.plain_machine.proofs.WholeEnds.{whole_ended, whole_thread_ended}
use Rattle.plain_machine.proofs.WholePlaced.{whole_again, whole_placed}
use Rattle.plain_machine.proofs.WholeStarts.{start_is_whole}
use Rattle.plain_machine.proofs.WholeForks.{whole_fork}
use Rattle.plain_machine.proofs.WholePairs.{whole_pair}
use Rattle.plain_machine.proofs.WholeNumbered.{whole_numbered}
use Rattle.plain_machine.proofs.laws.kernel_laws.Goals as goal

pub returns-clause-start : goal.returns-clause-start
returns-clause-start c = start_is_whole

pub returns-clause-take : goal.returns-clause-take
returns-clause-take c = whole_take

pub returns-clause-raise : goal.returns-clause-raise
returns-clause-raise c = whole_raise

pub returns-clause-raise_for_all : goal.returns-clause-raise_for_all
returns-clause-raise_for_all c = whole_raise_for_all

pub returns-clause-next_thread : goal.returns-clause-next_thread
returns-clause-next_thread c = whole_next_thread

pub returns-clause-thread_end : goal.returns-clause-thread_end
returns-clause-thread_end c = whole_thread_ended

pub returns-clause-end : goal.returns-clause-end
returns-clause-end c = whole_ended

pub returns-clause-fork : goal.returns-clause-fork
returns-clause-fork c = whole_fork

pub returns-clause-close : goal.returns-clause-close
returns-clause-close c = whole_close

pub returns-clause-again : goal.returns-clause-again
returns-clause-again c = whole_again

pub returns-clause-placed : goal.returns-clause-placed
returns-clause-placed c = λ k p fd num cloexec object flags is alive low free number sound alone may.
    whole_placed k p fd num cloexec object flags number.maker is alive low free number.known number.new number.below number.unknown sound alone may

pub returns-clause-numbered : goal.returns-clause-numbered
returns-clause-numbered c = whole_numbered

pub returns-clause-pair : goal.returns-clause-pair
returns-clause-pair c = λ k p conn channel side other fd fd_other num num_other flags flags_other cloexec is alive made both apart may may_other fds nums place place_other.
    whole_pair k p conn channel side other fd fd_other num num_other flags flags_other cloexec is alive made.few made.new made.number made.first_address made.second_address made.first_open made.second_open made.host
    both apart may may_other place.low place_other.low fds place.free place_other.free nums place.number place_other.number place.sound place_other.sound

pub returns-clause-arrival : goal.returns-clause-arrival
returns-clause-arrival c = whole_arrival
