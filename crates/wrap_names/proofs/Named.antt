-- What a guest's call names is what the kernel part tells, and its new numbers are nobody's.
--     neighbour_is, pipe_is     a process of the caller's host, and whether a descriptor leads to a pipe
--     maker, unmade, new_desc   the numbers for what the process makes
use Rattle.std.proofs.Common.{◌≡◌, ℕ, ◌^◌, ◌-◌, Bool, true, false, cond, List, Option, Some, None, refl, sym, ap, ◌∙◌, arith}
use Rattle.std.specs.Prelude.{nat_lt, is_some, option_map}
use Rattle.std.specs.Option.{option_map_or}
use Rattle.std.specs.FinMap as map
use Rattle.sys_abi.specs.declared.identity.VPid.{VPid}
use Rattle.sys_abi.specs.declared.identity.RealPid.{RealPid}
use Rattle.sys_abi.specs.declared.maker.Maker.{Maker}
use Rattle.call_table.specs.declared.request.Request.{Request}
use Rattle.fd_book.specs.Books.{IsWhole}
use Rattle.fd_tables.specs.declared.description.Desc.{Desc}
use Rattle.plain_tables.specs.Tables.{Makers}
use Rattle.plain_machine.specs.declared.kernel.PlainKernel.{PlainKernel}
use Rattle.plain_machine.specs.Kernel.{is_live}
use Rattle.plain_machine.specs.Making.{desc_id}
use Rattle.plain_machine.specs.RowLaws.{IsAsked}
use Rattle.host_streams.specs.OfHostTables.declared.system.System.{System}
use Rattle.host_streams.specs.OfHostTables.Conditions.{IsNewDesc}
use Rattle.host_streams.specs.OfHostTables.Descriptions.{seen_desc}
use Rattle.host_streams.specs.OfHostTables.Requests.{leads_to_pipe, neighbour_of}
use Rattle.host_streams.specs.OfHostTables.Systems.{given_of}
use Rattle.host_streams.proofs.OfHostTables.LookUps.{some_value}
use Rattle.host_streams.proofs.PipeLookUps.{leads_to_pipe_told}
use Rattle.wrap_names.specs.Naming.{neighbour_in, made_in, desc_in, named_in, of_pipe_in}
use Rattle.wrap_names.specs.Wrapping.{IsWrapped}
use Rattle.wrap_names.proofs.Callers.{its_process}

module _ (s : System) (next_id : ℕ) (k : PlainKernel) (w : IsWrapped s next_id k) (p : VPid) where
  pub neighbour_is : (number : ℕ) → named_in s p number ≡ neighbour_of s.ids.pids k p number
  neighbour_is number =
      ap (λ (makers : Makers). neighbour_in s.ids.pids makers p number) (sym w.stands.exact.makers)

  pub pipe_is : (who : RealPid) → map.get s.ids.pids p.0 ≡ Some who → IsWhole s.kernel.book → (fd : ℕ)
      → of_pipe_in s who fd ≡ leads_to_pipe k p fd
  pipe_is who paired book fd =
      sym (leads_to_pipe_told (given_of s) s.kernel k w.stands.kernel w.stands.tables p who paired fd book)

  module _ (t : ℕ) (q : Request) (given : List ℕ) (asked : IsAsked k p t q given) where
    pub maker : (m : Maker) × (map.get k.makers p ≡ Some m)
    maker =
        some_value (map.get k.makers p)
        (w.stands.kernel.makers.same p ∙ ap is_some (its_process s next_id k w p t q given asked).1)

    pub unmade : (x : _) → map.get k.descriptions (desc_id p (made_in s.conns.makers p)) ≡ Some x → ⊥
    unfolding is_live
    unmade x is =
        let made = w.stands.kernel.made.opened (desc_id p (made_in s.conns.makers p)) x is in
        let less = made.below maker.0 maker.1 asked.alive in
        let same : made_in s.conns.makers p ≡ maker.0.made =
        ap (λ (makers : Makers). made_in makers p) (sym w.stands.exact.makers)
        ∙ ap (λ o. option_map_or (λ (m : Maker). m.made) o 0) maker.1 in
        omega (arith, less, same)

    new_by : (o : Option Desc) → map.get s.kernel.book.descriptions (desc_id p (made_in s.conns.makers p)) ≡ o
        → map.get s.kernel.book.descriptions (desc_id p (made_in s.conns.makers p)) ≡ None
    new_by None e = e
    new_by (Some d) e =
        let id = desc_id p (made_in s.conns.makers p) in
        let g = given_of s in
        absurd (unmade (seen_desc g.virts g.names s.kernel.datagrams None id d)
        (w.stands.tables.descriptions.each id
        ∙ ap (option_map (seen_desc g.virts g.names s.kernel.datagrams None id)) e))

    desc_by : (b : Bool)
        → IsNewDesc s.kernel.book (cond b (Some (desc_id p (made_in s.conns.makers p))) None)
    desc_by true = new_by (map.get s.kernel.book.descriptions (desc_id p (made_in s.conns.makers p))) refl
    desc_by false = tt

    pub new_desc : IsNewDesc s.kernel.book (desc_in s.conns.makers p)
    new_desc = desc_by (nat_lt (made_in s.conns.makers p) (2 ^ 32 - 4))
