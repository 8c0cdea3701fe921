use Rattle.plain_process.proofs.Examples.{are_decoded, are_quotients, are_products, is_started, are_answers}
use Rattle.plain_process.proofs.laws.worked_examples.Goals as goal

pub returns-clause-decoded : goal.returns-clause-decoded
returns-clause-decoded c = are_decoded

pub returns-clause-quotients : goal.returns-clause-quotients
returns-clause-quotients c = are_quotients

pub returns-clause-products : goal.returns-clause-products
returns-clause-products c = are_products

pub returns-clause-start : goal.returns-clause-start
returns-clause-start c = is_started

pub returns-clause-answers : goal.returns-clause-answers
returns-clause-answers c = are_answers
