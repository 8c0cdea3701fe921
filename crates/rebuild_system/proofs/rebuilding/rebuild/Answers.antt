use Rattle.std.proofs.Common.{refl}
use Rattle.host_tables.specs.declared.system.System.{System}
use Rattle.rebuild_system.proofs.Whole.{stands, handed_out}
use Rattle.rebuild_system.proofs.rebuilding.rebuild.Goals as goal

pub returns-clause-stands : goal.returns-clause-stands
returns-clause-stands c =
    let s : System = record {
      kernel = record {
        files = c.in_ok-net.files;
        book = c.in_ok-net.book;
        net = c.in_ok-net.net;
        procs = c.in_ok-numbered.numbered.procs;
        datagrams = c.new.result;
        nodes = c.nodes_of.result;
      };
      ids = c.make_tables.new.ids;
      conns = c.in_ok-net.conns;
    } in
    record {
      stands = stands c.args.hosts.now c.args.kernel.now c.requires.whole c.requires.arrived c.requires.plain
          c.in_ok-numbered.numbered s (record {
            made = c.in_ok-numbered.ensures;
            procs = refl;
            pids = c.make_tables.ensures.numbers.0;
            virts = c.make_tables.ensures.numbers.1;
            net = c.in_ok-net.ensures.net;
            book = c.in_ok-net.ensures.book;
            files = c.in_ok-net.ensures.files;
            conns = c.in_ok-net.ensures.conns;
            datagrams = c.new.ensures;
            nodes = c.nodes_of.ensures;
          });
      next = refl;
    }

pub returns-clause-handed_out : goal.returns-clause-handed_out
returns-clause-handed_out c =
    let s : System = record {
      kernel = record {
        files = c.in_ok-net.files;
        book = c.in_ok-net.book;
        net = c.in_ok-net.net;
        procs = c.in_ok-numbered.numbered.procs;
        datagrams = c.new.result;
        nodes = c.nodes_of.result;
      };
      ids = c.make_tables.new.ids;
      conns = c.in_ok-net.conns;
    } in
    handed_out c.args.hosts.now c.args.kernel.now c.requires.whole c.requires.arrived c.requires.plain
    c.in_ok-numbered.numbered s (record {
      made = c.in_ok-numbered.ensures;
      procs = refl;
      pids = c.make_tables.ensures.numbers.0;
      virts = c.make_tables.ensures.numbers.1;
      net = c.in_ok-net.ensures.net;
      book = c.in_ok-net.ensures.book;
      files = c.in_ok-net.ensures.files;
      conns = c.in_ok-net.ensures.conns;
      datagrams = c.new.ensures;
      nodes = c.nodes_of.ensures;
    })
