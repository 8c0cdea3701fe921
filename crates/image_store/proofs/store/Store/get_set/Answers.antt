use Rattle.std.proofs.Common.{◌∙◌, ap, sym}
use Rattle.std.proofs.lemmas.Result.{IfOk-weaker}
use Rattle.image_store.specs.FoundSets.{set_of}
use Rattle.image_store.specs.StoreStates.{Known}
use Rattle.image_store.proofs.Gets.{damage_found_set, fits_still, has_found, last_generation, last_is, no_damage_none, none_set, set_found}
use Rattle.image_store.proofs.LastSets.{last_set_is}
use Rattle.image_store.proofs.Passing.{nothing_none}
use Rattle.image_store.proofs.SetLaws.{broken_answer}
use Rattle.image_store.proofs.store.Store.get_set.Goals as goal

pub read_set-requires : goal.read_set-requires
read_set-requires g c = λ files is. last_generation files c.in-Some.info (last_is c.args.self.now files _ c.self.inside.last _ (c.requires files is) (ap (λ (k : Known). k.last) c.self.view_is) c.in-Some.is)

pub returns-in-None-clause-only : goal.returns-in-None-clause-only
returns-in-None-clause-only g c = λ files is n bytes has. none_set files n bytes (last_is c.args.self.now files _ c.self.inside.last _ (c.requires files is) (ap (λ (k : Known). k.last) c.self.view_is) c.in-None.is) has

pub returns-in-None-clause-nothing : goal.returns-in-None-clause-nothing
returns-in-None-clause-nothing g c = nothing_none (g.F.Folder.seen c.args.disk.now)

pub returns-in-Some-clause-found : goal.returns-in-Some-clause-found
returns-in-Some-clause-found g c = IfOk-weaker c.read_set.result _ _ (λ set found files is.
    let known = ap (λ (k : Known). k.last) c.self.view_is in
    has_found files c.in-Some.info c.args.self.now.last set.files (last_is c.args.self.now files _ c.self.inside.last _ (c.requires files is) known c.in-Some.is) (sym known ∙ c.in-Some.is) (found files is)) c.read_set.ensures.found

pub returns-in-Some-clause-only : goal.returns-in-Some-clause-only
returns-in-Some-clause-only g c = λ files is n bytes has.
    let counts = last_is c.args.self.now files _ c.self.inside.last _ (c.requires files is) (ap (λ (k : Known). k.last) c.self.view_is) c.in-Some.is in
    c.read_set.ensures.only files is n bytes (set_found files c.in-Some.info n bytes counts has)

pub returns-in-Some-clause-damaged : goal.returns-in-Some-clause-damaged
returns-in-Some-clause-damaged g c = λ d damaged files is.
    let counts = last_is c.args.self.now files _ c.self.inside.last _ (c.requires files is) (ap (λ (k : Known). k.last) c.self.view_is) c.in-Some.is in
    (set_of files c.in-Some.info, last_set_is files c.in-Some.info counts, c.read_set.ensures.damaged d damaged files is)

pub returns-in-Some-clause-fits : goal.returns-in-Some-clause-fits
returns-in-Some-clause-fits g c = λ files is. fits_still c.args.self.now files c.read_set.ensures.nothing.crash (c.requires files (sym c.read_set.ensures.nothing.same ∙ is))

pub returns-in-None-clause-broken : goal.returns-in-None-clause-broken
returns-in-None-clause-broken g c = λ files is d damage. no_damage_none files d (last_is c.args.self.now files _ c.self.inside.last _ (c.requires files is) (ap (λ (k : Known). k.last) c.self.view_is) c.in-None.is) damage

pub returns-in-Some-clause-broken : goal.returns-in-Some-clause-broken
returns-in-Some-clause-broken g c = λ files is d damage.
    let counts = last_is c.args.self.now files _ c.self.inside.last _ (c.requires files is) (ap (λ (k : Known). k.last) c.self.view_is) c.in-Some.is in
    broken_answer (set_of files c.in-Some.info) c.in-Some.info.generation c.read_set.result d
    (IfOk-weaker c.read_set.result _ _ (λ set found. found files is) c.read_set.ensures.found) (λ e damaged. c.read_set.ensures.damaged e damaged files is) c.read_set.ensures.read (damage_found_set files c.in-Some.info d counts damage)
