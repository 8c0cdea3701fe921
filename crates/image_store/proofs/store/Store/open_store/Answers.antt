use Rattle.std.proofs.Common.{◌≡◌, sym, ◌∙◌}
use Rattle.std.specs.Prelude.{Some}
use Rattle.image_store.proofs.Passing.{nothing_call, nothing_then, settled_at, settled_same}
use Rattle.image_store.proofs.Openings.{opened_last, passed_last}
use Rattle.image_store.proofs.store.Store.open_store.Goals as goal

pub returns-in_err-first-clause-nothing : goal.returns-in_err-first-clause-nothing
returns-in_err-first-clause-nothing g c = nothing_then (nothing_call c.sync.ensures.same c.sync.ensures.crash) (nothing_call c.read_head.ensures.same c.read_head.ensures.crash)

pub returns-in_err-second-clause-nothing : goal.returns-in_err-second-clause-nothing
returns-in_err-second-clause-nothing g c =
    nothing_then (nothing_then (nothing_call c.sync.ensures.same c.sync.ensures.crash) (nothing_call c.read_head.ensures.same c.read_head.ensures.crash)) (nothing_call c.read_head-2.ensures.same c.read_head-2.ensures.crash)

pub returns-clause-nothing : goal.returns-clause-nothing
returns-clause-nothing g c =
    nothing_then (nothing_then (nothing_call c.sync.ensures.same c.sync.ensures.crash) (nothing_call c.read_head.ensures.same c.read_head.ensures.crash)) (nothing_call c.read_head-2.ensures.same c.read_head-2.ensures.crash)

pub returns-clause-fits : goal.returns-clause-fits
returns-clause-fits g c = λ files is.
    let second : (g.F.Folder.seen c.read_head.new.disk).files ≡ Some files = sym c.read_head-2.ensures.same ∙ is in
    let first : (g.F.Folder.seen c.sync.new.self).files ≡ Some files = sym c.read_head.ensures.same ∙ second in
    let start : (g.F.Folder.seen c.args.disk.now).files ≡ Some files = sym c.sync.ensures.same ∙ first in
    let settled = settled_at (g.F.Folder.seen c.sync.new.self) files c.in_ok-sync.ensures.durable first in
    record {
      settled = settled_same files c.read_head-2.ensures.crash (settled_same files c.read_head.ensures.crash settled);
      first = c.in_ok-first.ensures.gate files first;
      second = c.in_ok-second.ensures.gate files second;
      last = opened_last files c.args.floor _ _ _ _ (c.requires files start) (c.in_ok-first.ensures.info files first) (c.in_ok-second.ensures.info files second) c.within_floor.ensures c.within_floor-2.ensures ∙ sym c.later-last.ensures;
    }

pub returns-clause-passed : goal.returns-clause-passed
returns-clause-passed g c = λ some. passed_last c.args.floor _ _ _ _ _ some c.within_floor.ensures c.within_floor-2.ensures c.later-last.ensures
