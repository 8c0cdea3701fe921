-- A system that a checkpoint holds, beside what it was when it was suspended.
-- Source: `man 2 fcntl` (F_SETOWN); DMTCP's stages change owners and where bytes stand, and nothing else.
--     voted_by s p                 the system after the process has voted
--     put_back owners s            it, with these owners
--     DiffersInOwners a b          the books are alike but for the owners of descriptions
--     IsCut s next_id k owners agents      the system was one that stood for the kernel part, with these
--                                          owners, and had no end of a datagram pair;
--                                  it differs in owners and in where bytes stand, of which agents hold these
use Rattle.std.specs.Prelude.{◌≡◌, ◌<◌, ℕ, None, option_map}
use Rattle.std.specs.Option.{option_map_or}
use Rattle.std.specs.FinMap as map
use Rattle.sys_abi.specs.declared.identity.DescId.{DescId}
use Rattle.sys_abi.specs.declared.identity.Dir.{Dir}
use Rattle.sys_abi.specs.declared.identity.RealPid.{RealPid}
use Rattle.sys_abi.specs.declared.identity.VPid.{VPid}
use Rattle.fd_tables.specs.Parts.{with_owner}
use Rattle.fd_book.specs.Books.{Books}
use Rattle.leader_vote.specs.Elections.{after_vote}
use Rattle.plain_machine.specs.declared.kernel.PlainKernel.{PlainKernel}
use Rattle.wire_channels.specs.Channels.{Channels, direction_at}
use Rattle.wire_channels.specs.Frames.{SameFrames}
use Rattle.wire_net.specs.Whereabouts.{Agents, stream_on, whereabouts}
use Rattle.host_tables.specs.declared.system.System.{System}
use Rattle.wrap_names.specs.Wrapping.{IsWrapped}
use Rattle.seen_kernel.specs.Descriptions.{HasNoDatagrams}
use Rattle.leader_vote.specs.Owners.{Owners, KeepsOwners, with_owners}

abbrev pub with_book : System → Books → System
with_book s book = record s { kernel = record s.kernel { book = book } }

abbrev pub voted_by : System → VPid → System
voted_by s p = option_map_or (λ (r : RealPid). with_book s (after_vote s.kernel.book r)) (map.get
    s.ids.pids p.0) s

abbrev pub put_back : Owners → System → System
put_back owners s = with_book s (with_owners owners s.kernel.book)

pub record DiffersInOwners (a b : Books) : Type 0 where
  pub descriptors : b.descriptors ≡ a.descriptors
  pub descriptions : (id : DescId) → option_map (with_owner None) (map.get b.descriptions id)
      ≡ option_map (with_owner None) (map.get a.descriptions id)

abbrev pub changed_in : System → Books → Channels → System
changed_in before book channels = record before {
  kernel = record before.kernel {
    book = book;
    net = record before.kernel.net { channels = channels };
  };
}

pub record IsCut (s : System) (next_id : ℕ) (k : PlainKernel) (owners : Owners) (agents : Agents) : Type 0
  where
    pub before : System
    pub wrapped : IsWrapped before next_id k
    pub plain : HasNoDatagrams k.descriptions
    pub kept : KeepsOwners before.kernel.book owners
    pub book : DiffersInOwners before.kernel.book s.kernel.book
    pub frames : SameFrames before.kernel.net.channels s.kernel.net.channels
    pub bytes : (d : Dir) → d.side < 2
        → whereabouts s.kernel.net agents d ≡ stream_on (direction_at before.kernel.net.channels d)
    pub rest : s ≡ changed_in before s.kernel.book s.kernel.net.channels
