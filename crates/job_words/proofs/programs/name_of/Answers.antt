use Rattle.job_words.proofs.ProgramWords.{stands_cut, stands_whole}
use Rattle.job_words.proofs.programs.name_of.Goals as goal

pub returns-in-Some : goal.returns-in-Some
returns-in-Some c = stands_cut c.args.listed.now (c.in-Some.name, c.in-Some.field-0-1) c.in-Some.ensures.cases

pub returns-in-None : goal.returns-in-None
returns-in-None c = stands_whole c.args.listed.now c.in-None.ensures.cases
