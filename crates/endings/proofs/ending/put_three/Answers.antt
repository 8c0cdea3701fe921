use Rattle.std.proofs.Common.{◌++◌}
use Rattle.edge_io.specs.Sunk.{sunk, TookFront}
use Rattle.endings.proofs.Sinks.{took_both, took_more, front_grows, OnErr-of_any, OnErr-map}
use Rattle.endings.proofs.ending.put_three.Goals as goal

pub returns-in_err-put-clause-err : goal.returns-in_err-put-clause-err
returns-in_err-put-clause-err g c =
    let first = c.args.first.now in
    let second = c.args.second.now in
    let third = c.args.third.now in
    let sink = sunk (g.L.Sink.seen c.args.log.now).taken (g.L.Sink.seen c.put.new.log).taken in
    OnErr-of_any (TookFront sink (first ++ second ++ third)) _ (front_grows sink (first ++ second) third (front_grows sink first second c.in_err-put.ensures.err))

pub returns-in_err-put-2-clause-err : goal.returns-in_err-put-2-clause-err
returns-in_err-put-2-clause-err g c =
    let first = c.args.first.now in
    let second = c.args.second.now in
    let third = c.args.third.now in
    let sink = sunk (g.L.Sink.seen c.args.log.now).taken (g.L.Sink.seen c.put-2.new.log).taken in
    OnErr-of_any (TookFront sink (first ++ second ++ third)) _
    (front_grows sink (first ++ second) third (took_more (g.L.Sink.seen c.args.log.now).taken (g.L.Sink.seen c.put.new.log).taken (g.L.Sink.seen c.put-2.new.log).taken first second c.in_ok-put.ensures.ok c.in_err-put-2.ensures.err))

pub returns-clause-err : goal.returns-clause-err
returns-clause-err g c =
    let first = c.args.first.now in
    let second = c.args.second.now in
    let third = c.args.third.now in
    let both = took_both (g.L.Sink.seen c.args.log.now).taken (g.L.Sink.seen c.put.new.log).taken (g.L.Sink.seen c.put-2.new.log).taken first second c.in_ok-put.ensures.ok c.in_ok-put-2.ensures.ok in
    OnErr-map c.put-3.result (λ front. took_more (g.L.Sink.seen c.args.log.now).taken (g.L.Sink.seen c.put-2.new.log).taken (g.L.Sink.seen c.put-3.new.log).taken (first ++ second) third both front) c.put-3.ensures.err
