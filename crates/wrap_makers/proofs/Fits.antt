-- What a call makes is what its row asks for: its numbers are the next ones of the process, and nobody's.
--     Fits s k p t r given m      what is owed of what a call makes
--     each_fits                   each of these calls owes nothing more
use Rattle.std.proofs.Common.{◌≡◌, ℕ, ◌≤◌, Bool, true, false, cond, List, Option, Some, None, refl, sym, subst, arith}
use Rattle.std.specs.Prelude.{◌==◌, ◌%◌}
use Rattle.views.specs.Numbers.{Byte}
use Rattle.views.proofs.MapLaws.{true_false}
use Rattle.sys_abi.specs.declared.identity.VPid.{VPid}
use Rattle.sys_abi.specs.declared.identity.DescId.{DescId}
use Rattle.sys_abi.specs.declared.identity.RealPid.{RealPid}
use Rattle.call_table.specs.declared.request.Request.{Request}
use Rattle.call_table.specs.declared.request.Request.TheVariants.{Pipe2, Socket, Socketpair}
use Rattle.plain_tables.specs.Tables.{Makers}
use Rattle.plain_machine.specs.declared.kernel.PlainKernel.{PlainKernel}
use Rattle.plain_machine.specs.Addresses.{address_at}
use Rattle.plain_machine.specs.Kernel.{has_numbers, is_live, made_of}
use Rattle.plain_machine.specs.Rows.Channels.{STREAMS}
use Rattle.plain_machine.specs.Serve.{row}
use Rattle.plain_machine.proofs.Trying.{Trying}
use Rattle.host_tables.specs.declared.request.ChannelIds.{ChannelIds}
use Rattle.host_tables.specs.declared.system.System.{System}
use Rattle.host_tables.specs.Conditions.{IsFresh}
use Rattle.host_tables.specs.Requests.{plain_of, IsNamed}
use Rattle.host_tables.specs.Serves.{ValueOf, GivenAfter, row_of, PAIR, PIPE, with_new_name, with_new_channel}
use Rattle.host_tables.specs.Stands.{Given}
use Rattle.host_tables.specs.Systems.{given_of}
use Rattle.wrap_names.specs.Wrapping.{IsWrapped}
use Rattle.wrap_makers.specs.declared.entries.Entry.TheVariants.{Nothing}
use Rattle.wrap_makers.specs.declared.making.Making.{Making}
use Rattle.wrap_makers.specs.Entries.{given_with}
use Rattle.wrap_makers.specs.Making.{makes_ends, making_in, name_of, channel_of}
use Rattle.wrap_makers.proofs.EndRows.{Makes, name_by, channel_by, pair_entry, socket_makes, pipe_makes, pair_makes}
use Rattle.wrap_makers.proofs.NewNumbers.{free_name, free_entry, fresh_desc, fresh_channel, fresh_pair}
use Rattle.wrap_makers.proofs.Undone.{IsNewEntry}

pub record Fits (s : System) (k : PlainKernel) (p : VPid) (t : ℕ) (r : Request) (given : List Byte)
    (m : Making) : Type 0 where
  pub named : (who : RealPid) → IsNamed (given_of s) k who p 0 given m.call
  pub fresh : (who : RealPid) → IsFresh s.kernel who m.call
  pub new : IsNewEntry s.conns m.entry
  pub after : (who : RealPid) (n v : ℕ) (g : Given)
      → GivenAfter who k p 0 given m.call n v g ≡ given_with g m.entry
  pub value : (who : RealPid) (n v : ℕ) (g : Given) → ValueOf who m.call n v g → n ≡ v
  pub row_is : row_of m.call (row k p t (plain_of 0 m.call) given) ≡ row k p t r given
  pub makes : Trying (row k p t r given) (Makes k p m.count m.entry)
  pub few : m.count ≤ 3

-- what is given with the entry
with_name_is : (g : Given) (host : ℕ) (id : Option DescId)
    → with_new_name g id (address_at host 0) ≡ given_with g (name_of id host)
with_name_is g host None = refl
with_name_is g host (Some id) = refl

with_channel_is : (g : Given) (kind : ℕ) (ids : Option ChannelIds)
    → with_new_channel g ids kind ≡ given_with g (channel_of ids kind)
with_channel_is g kind None = refl
with_channel_is g kind (Some ids) = refl

with_pair_is : (g : Given) (ids : Option ChannelIds) (streams : Bool)
    → cond streams (with_new_channel g ids PAIR) g ≡ given_with g (cond streams (channel_of ids PAIR) Nothing)
with_pair_is g ids true = with_channel_is g PAIR ids
with_pair_is g ids false = refl

few_by : (streams : Bool) → cond streams 3 2 ≤ 3
few_by true = omega arith
few_by false = omega arith

module _ (s : System) (next_id : ℕ) (k : PlainKernel) (w : IsWrapped s next_id k) (p : VPid)
    (alive : is_live k p ≡ true) where
  new_name : (left : Bool) → IsNewEntry s.conns (name_by k p left)
  new_name true = free_name s next_id k w p alive (made_of k p) (omega arith)
  new_name false = tt

  new_channel : (kind : ℕ) (left : Bool) → IsNewEntry s.conns (channel_by k p kind left)
  new_channel kind true = free_entry s next_id k w p alive (made_of k p) (omega arith)
  new_channel kind false = tt

  new_pair : (streams : Bool) → IsNewEntry s.conns (pair_entry k p streams)
  new_pair true = new_channel PAIR (has_numbers k p)
  new_pair false = tt

  fits_row : (t : ℕ) (r : Request) (given : List Byte) → makes_ends r ≡ true
      → Fits s k p t r given (making_in k.makers p r)
  unfolding making_in makes_ends row
  fits_row t (Socket domain socket_type protocol) given family = record {
    named = λ who. refl;
    fresh = λ who. fresh_desc s next_id k w p alive (has_numbers k p);
    new = new_name (has_numbers k p);
    after = λ who n v g. with_name_is g _ _;
    value = λ who n v g h. h;
    row_is = refl;
    makes = socket_makes k p w.stands.kernel alive domain socket_type protocol;
    few = omega arith;
  }
  fits_row t (Pipe2 fds flags) given family = record {
    named = λ who. refl;
    fresh = λ who. fresh_channel s next_id k w p alive (has_numbers k p);
    new = new_channel PIPE (has_numbers k p);
    after = λ who n v g. with_channel_is g PIPE _;
    value = λ who n v g h. h;
    row_is = refl;
    makes = pipe_makes k p w.stands.kernel alive flags;
    few = omega arith;
  }
  fits_row t (Socketpair domain socket_type protocol fds) given family = record {
    named = λ who. (refl, refl);
    fresh = λ who. (
      fresh_channel s next_id k w p alive (has_numbers k p),
      fresh_pair s next_id k w p alive (has_numbers k p),
    );
    new = new_pair (socket_type % 16 == STREAMS);
    after = λ who n v g. with_pair_is g _ (socket_type % 16 == STREAMS);
    value = λ who n v g h. h;
    row_is = refl;
    makes = pair_makes k p w.stands.kernel alive domain socket_type protocol;
    few = few_by (socket_type % 16 == STREAMS);
  }
  fits_row t _ given family = true_false (sym family)

  pub each_fits : (t : ℕ) (r : Request) (given : List Byte) → makes_ends r ≡ true
      → Fits s k p t r given (making_in s.conns.makers p r)
  each_fits t r given family =
      subst (λ (makers : Makers). Fits s k p t r given (making_in makers p r)) w.stands.exact.makers
      (fits_row t r given family)
