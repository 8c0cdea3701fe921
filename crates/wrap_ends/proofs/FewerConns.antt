-- A kernel goes on to stand for its kernel part where the table of channels has lost what it lost too.
--     real_ends        the ends of the network's channels are those of the kernel part's
--     fewer_conns      the kernel stands by the fewer channels
--     conn_ends        whose ends are then those of the network
use Rattle.std.proofs.Common.{◌≡◌, suc, Bool, false, List, [], ◌∷◌, Option, Some, None, refl, sym, ap, ◌∙◌, subst, arith}
use Rattle.std.specs.Prelude.{◌==◌, ◌&&◌, length, slice_index_or, IsSome, is_some, option_map, option_and_then}
use Rattle.std.specs.FinMap as map
use Rattle.std.proofs.lemmas.Option.{none-some, same_Some}
use Rattle.views.specs.Seen.{Agree}
use Rattle.views.proofs.MapLaws.{true_false}
use Rattle.sys_abi.specs.declared.identity.ConnId.{ConnId}
use Rattle.sys_abi.specs.declared.identity.Dir.{Dir}
use Rattle.conn_table.specs.declared.conn.Conn.{Conn}
use Rattle.plain_tables.specs.declared.channel.Direction as plain_direction
use Rattle.plain_machine.specs.declared.kernel.PlainKernel.{PlainKernel}
use Rattle.wire_channels.specs.declared.channel.Channel.{Channel}
use Rattle.wire_channels.specs.Channels as channels
use Rattle.wire_channels.specs.Directions.{Direction}
use Rattle.host_tables.specs.declared.kernel.Kernel.{Kernel}
use Rattle.host_tables.specs.Network.{Conns, kind_of, seen_channel, SameChannels}
use Rattle.host_tables.specs.Stands.{Given, Stands}
use Rattle.host_tables.proofs.LookUps.{some_value}
use Rattle.wrap_ends.proofs.ConnEnds.{ends_in, plain_ends_in, AreEnds, IsLike, AreFewer}

abbrev pub real_ends_in : Option Channel → Option (List Bool)
real_ends_in o = option_map (λ (x : Channel). x.open_ends) o

both_ends : (xs : List Bool) → length xs ≡ 2
    → slice_index_or xs 0 false ∷ slice_index_or xs 1 false ∷ [] ≡ xs
both_ends (a ∷ b ∷ []) is = refl
both_ends [] is = absurd (let e : 0 ≡ 2 = is in omega (arith, e))
both_ends (a ∷ []) is = absurd (let e : 1 ≡ 2 = is in omega (arith, e))
both_ends (a ∷ b ∷ c ∷ xs) is =
    absurd (let e : suc (suc (suc (length xs))) ≡ 2 = is in omega (arith, e))

module _ (g : Given) (real : Kernel) (k : PlainKernel) (st : Stands g None real k) where
  module _ (id : ConnId) (x : Channel) (there : map.get real.net.channels id ≡ Some x) where
    listed : (c : Conn) × (map.get g.conns id ≡ Some c)
    listed = some_value (map.get g.conns id) (st.channels.listed id (ap is_some there))

    seen : map.get k.channels id ≡ Some (seen_channel x listed.0)
    seen =
        st.channels.each id
        ∙ (λ i. option_and_then (λ (y : Channel). option_map (seen_channel y) (listed.1 i)) (there i))

    ends_there : plain_ends_in (map.get k.channels id) ≡ Some x.open_ends
    ends_there = ap plain_ends_in seen ∙ ap Some (both_ends x.open_ends (st.channels.sides id x there))

  ends_by : (id : ConnId) (o : Option Channel) → map.get real.net.channels id ≡ o
      → plain_ends_in (map.get k.channels id) ≡ real_ends_in o
  ends_by id None e =
      ap plain_ends_in (st.channels.each id
      ∙ ap (option_and_then (λ (y : Channel). option_map (seen_channel y) (map.get g.conns id))) e)
  ends_by id (Some x) e = ends_there id x e

  pub real_ends : (id : ConnId)
      → plain_ends_in (map.get k.channels id) ≡ real_ends_in (map.get real.net.channels id)
  real_ends id = ends_by id (map.get real.net.channels id) refl

  module _ (conns' : Conns) (fewer : AreFewer conns' g.conns) (are : AreEnds conns' k.channels) where
    abbrev pub fewer_given : Given
    fewer_given = record g { conns = conns' }

    pub conn_ends : (id : ConnId) → ends_in (map.get conns' id) ≡ real_ends_in (map.get real.net.channels id)
    conn_ends id = are id ∙ real_ends id

    module _ (id : ConnId) (x : Channel) (there : map.get real.net.channels id ≡ Some x) where
      record Still : Type 0 where
        conn : Conn
        is : map.get conns' id ≡ Some conn
        like : IsLike conn (listed id x there).0

      listed_by : (o : Option Conn) → map.get conns' id ≡ o → Still
      listed_by None e =
          absurd (none-some x.open_ends (sym (ap ends_in e) ∙ conn_ends id ∙ ap real_ends_in there))
      listed_by (Some c) e =
          let was = fewer id c e in
          let same = same_Some was.0 (listed id x there).0 (sym was.1.0 ∙ (listed id x there).1) in
          record { conn = c; is = e; like = subst (λ (y : Conn). IsLike c y) same was.1.1 }

      still : Still
      still = listed_by (map.get conns' id) refl

      seen_still : seen_channel x (listed id x there).0 ≡ seen_channel x still.conn
      seen_still =
          let kinds = sym still.like.kind in
          let addresses = sym still.like.addr in
          λ i. record {
            kind = kind_of (kinds i);
            first = record {
              address = slice_index_or (addresses i) 0 None;
              is_open = slice_index_or x.open_ends 0 false;
            };
            second = record {
              address = slice_index_or (addresses i) 1 None;
              is_open = slice_index_or x.open_ends 1 false;
            };
          }

    each_by : (id : ConnId) (o : Option Channel) → map.get real.net.channels id ≡ o
        → map.get k.channels id
        ≡ option_and_then (λ (y : Channel). option_map (seen_channel y) (map.get conns' id)) o
    each_by id None e =
        st.channels.each id
        ∙ ap (option_and_then (λ (y : Channel). option_map (seen_channel y) (map.get g.conns id))) e
    each_by id (Some x) e =
        seen id x e ∙ ap Some (seen_still id x e) ∙ sym (ap (option_map (seen_channel x)) (still id x e).is)

    listed_still : (id : ConnId) (o : Option Channel) → map.get real.net.channels id ≡ o → IsSome o
        → IsSome (map.get conns' id)
    listed_still id None e some = true_false (sym some)
    listed_still id (Some x) e some = ap is_some (still id x e).is

    channels_fewer : SameChannels conns' k.channels real.net.channels
    channels_fewer = record {
      each = λ id. each_by id (map.get real.net.channels id) refl;
      listed = λ id some. listed_still id (map.get real.net.channels id) refl some;
      sides = st.channels.sides;
    }

    pub fewer_conns : Stands fewer_given None real k
    fewer_conns = record {
      paired = st.paired;
      numbered = st.numbered;
      processes = st.processes;
      descriptors = st.descriptors;
      descriptions = st.descriptions;
      inboxes = st.inboxes;
      files = st.files;
      channels = channels_fewer;
      directions = st.directions;
      listeners = st.listeners;
    }
