-- A system that stands for a kernel part but for pairs of numbers that are nobody's, which go then.
--     KeepsBut k k' Extra        but for these numbers all that the tables are about is kept
--     IsNearly s next_id k' Extra      the system stands for the kernel part, but for these numbers
--     nearly                     after such a change
--     dropped, all_dropped       the pair of one of them goes, and none is left
use Rattle.std.proofs.Common.{◌≡◌, ◌≢◌, ◌⊎◌, ℕ, true, Option, Some, None, inl, inr, refl, sym, ap, ◌∙◌, subst}
use Rattle.std.specs.Prelude.{IsSome, option_map}
use Rattle.std.specs.Cmp.{nat_cmp_total}
use Rattle.std.specs.FinMap as map
use Rattle.std.specs.FinMap.{nat_cmp-IsAntisymmetric}
use Rattle.std.proofs.lemmas.Option.{none-some}
use Rattle.views.proofs.MapLaws.{remove_absent}
use Rattle.sys_abi.specs.declared.identity.ConnId.{ConnId}
use Rattle.sys_abi.specs.declared.identity.DescId.{DescId}
use Rattle.sys_abi.specs.declared.identity.RealAddr.{RealAddr}
use Rattle.sys_abi.specs.declared.identity.RealPid.{RealPid}
use Rattle.sys_abi.specs.declared.identity.VirtAddr.{VirtAddr}
use Rattle.conn_table.specs.declared.conn.Conn.{Conn}
use Rattle.virt_ids.specs.Pairs.{without_back}
use Rattle.wire_channels.specs.declared.channel.Channel.{Channel}
use Rattle.plain_machine.specs.declared.kernel.PlainKernel.{PlainKernel}
use Rattle.plain_machine.specs.Kernels.{IsKernel}
use Rattle.host_tables.specs.declared.system.System.{System}
use Rattle.host_tables.specs.Numbers.{Pids, HasRoom}
use Rattle.host_tables.specs.Stands.{Stands}
use Rattle.host_tables.specs.Systems.{given_of, IsNumber, IsEntry, is_named_in}
use Rattle.wrap_names.specs.Passing.{Passed}
use Rattle.wrap_names.specs.Wrapping.{IsWrapped}
use Rattle.wrap_names.proofs.FewerPairs.{real_was, other_number}
use Rattle.wrap_names.proofs.Kept.{given_is, next_kept, ends_are}
use Rattle.wrap_names.proofs.Reaping.{IsNobody, Stands-shrinks}

pub record KeepsBut (k k' : PlainKernel) (Extra : ℕ → Type 0) : Type 0 where
  pub numbers : (v : ℕ) → IsNumber k v → IsNumber k' v ⊎ Extra v
  pub places : (a : VirtAddr) → IsSome (map.get k.listeners a) → IsSome (map.get k'.listeners a)
  pub names : (id : DescId) → is_named_in (map.get k.descriptions id) ≡ true
      → is_named_in (map.get k'.descriptions id) ≡ true
  pub channels : k'.channels ≡ k.channels
  pub next : k'.next_id ≡ k.next_id

-- all that is exact but the numbers
pub record IsRest (s : System) (k : PlainKernel) : Type 0 where
  pub makers : k.makers ≡ s.conns.makers
  pub places : (a : VirtAddr) (at : RealAddr) → map.get s.ids.addresses a ≡ Some at
      → IsSome (map.get k.listeners a)
  pub names : (id : DescId) (a : VirtAddr) → map.get s.conns.names id ≡ Some a
      → is_named_in (map.get k.descriptions id) ≡ true
  pub open_ends : (id : ConnId) → option_map (λ (c : Conn). c.open_ends) (map.get s.conns.conns id)
      ≡ option_map (λ (c : Channel). c.open_ends) (map.get s.kernel.net.channels id)
  pub entries : (id : ConnId) (conn : Conn) → map.get s.conns.conns id ≡ Some conn → IsEntry id conn

pub record IsNearly (s : System) (next_id : ℕ) (k : PlainKernel) (Extra : ℕ → Type 0) : Type 0 where
  pub kernel : IsKernel k
  pub tables : Stands (given_of s) None s.kernel k
  pub rest : IsRest s k
  pub numbers : (v : ℕ) (r : RealPid) → map.get s.ids.pids v ≡ Some r → IsNumber k v ⊎ Extra v
  pub room : HasRoom k.next_id s.kernel.procs.next
  pub next : k.next_id ≡ next_id

-- after a change
module _ (s : System) (next_id : ℕ) (k : PlainKernel) (w : IsWrapped s next_id k) (s' : System)
    (k' : PlainKernel)
    (p : Passed s s' k') (Extra : ℕ → Type 0) (keeps : KeepsBut k k' Extra)
    (makers : k'.makers ≡ s'.conns.makers) where
  pub nearly : IsKernel k' → IsNearly s' next_id k' Extra
  nearly whole = record {
    kernel = whole;
    tables = subst (λ g. Stands g None s'.kernel k') (sym (given_is s s' k' p)) p.stands;
    rest = record {
      makers = makers;
      places = λ a at is.
          keeps.places a (w.stands.exact.places a at (ap (λ ids. map.get ids.addresses a) (sym p.ids) ∙ is));
      names = λ id a is.
          keeps.names id (w.stands.exact.names id a (ap (λ names. map.get names id) (sym p.names) ∙ is));
      open_ends = λ id.
          ap (λ conns. option_map (λ (c : Conn). c.open_ends) (map.get conns id)) p.conns
          ∙ w.stands.exact.open_ends id ∙ ends_are s next_id k w s' k' p keeps.channels id;
      entries = λ id conn is.
          w.stands.exact.entries id conn (ap (λ conns. map.get conns id) (sym p.conns) ∙ is);
    };
    numbers = λ v r is.
        keeps.numbers v (w.stands.exact.numbers v r (ap (λ ids. map.get ids.pids v) (sym p.ids) ∙ is));
    room = subst (λ n. HasRoom n s'.kernel.procs.next) (sym keeps.next)
        (subst (HasRoom k.next_id) (sym (next_kept s s' k' p)) w.stands.room);
    next = keeps.next ∙ w.next;
  }

-- the pair of a number goes

abbrev pub without_pair : System → ℕ → System
without_pair s v = record s {
  ids = record s.ids {
    pids = map.remove s.ids.pids v;
    virts = without_back s.ids.virts
        (map.get s.ids.pids v);
  };
}

module _ (s : System) (next_id : ℕ) (k : PlainKernel) (Extra : ℕ → Type 0) (is : IsNearly s next_id k Extra)
    (v : ℕ) (nobody : IsNobody k v) where
  not_it : (u : ℕ) → u ≢ v → IsNumber k u ⊎ Extra u → IsNumber k u ⊎ (Extra u × (u ≢ v))
  not_it u differ number = elim number [ inl there ↦ inl there | inr extra ↦ inr (extra, differ) ]

  with_real : (r : RealPid) → map.get s.ids.pids v ≡ Some r
      → IsNearly (record s {
        ids = record s.ids { pids = map.remove s.ids.pids v; virts = map.remove s.ids.virts r };
      }) next_id k (λ u. Extra u × (u ≢ v))
  with_real r paired =
      let inverse = is.tables.paired.inverse in
      record {
        kernel = is.kernel;
        tables = Stands-shrinks (given_of s) s.kernel k is.tables v r paired nobody;
        rest = record {
          makers = is.rest.makers;
          places = is.rest.places;
          names = is.rest.names;
          open_ends = is.rest.open_ends;
          entries = is.rest.entries;
        };
        numbers = λ u q at.
            not_it u (other_number s.ids.pids s.ids.virts inverse v r paired u q at)
            (is.numbers u q (real_was s.ids.pids s.ids.virts inverse v r paired u q at));
        room = is.room;
        next = is.next;
      }

  unpaired : map.get s.ids.pids v ≡ None → IsNearly s next_id k (λ u. Extra u × (u ≢ v))
  unpaired none = record {
    kernel = is.kernel;
    tables = is.tables;
    rest = is.rest;
    numbers = λ u q at.
        not_it u (λ same. none-some q (sym none ∙ ap (map.get s.ids.pids) (sym same) ∙ at))
        (is.numbers u q at);
    room = is.room;
    next = is.next;
  }

  by_found : (o : Option RealPid) → map.get s.ids.pids v ≡ o → IsNearly (record s {
    ids = record s.ids { pids = map.remove s.ids.pids v; virts = without_back s.ids.virts o };
  }) next_id k (λ u. Extra u × (u ≢ v))
  by_found None none =
      subst (λ (m : Pids). IsNearly (record s { ids = record s.ids { pids = m } }) next_id k
      (λ u. Extra u × (u ≢ v)))
      (sym (remove_absent nat_cmp_total nat_cmp-IsAntisymmetric s.ids.pids v none)) (unpaired none)
  by_found (Some r) paired = with_real r paired

  pub dropped : IsNearly (without_pair s v) next_id k (λ u. Extra u × (u ≢ v))
  dropped = by_found (map.get s.ids.pids v) refl

pub all_dropped : (s : System) (next_id : ℕ) (k : PlainKernel) (Extra : ℕ → Type 0)
    → IsNearly s next_id k Extra → ((v : ℕ) → Extra v → ⊥) → IsWrapped s next_id k
all_dropped s next_id k Extra is none = record {
  stands = record {
    kernel = is.kernel;
    tables = is.tables;
    exact = record {
      makers = is.rest.makers;
      numbers = λ v r at.
          elim (is.numbers v r at) [ inl there ↦ there | inr extra ↦ absurd (none v extra) ];
      places = is.rest.places;
      names = is.rest.names;
      open_ends = is.rest.open_ends;
      entries = is.rest.entries;
    };
    room = is.room;
  };
  next = is.next;
}
