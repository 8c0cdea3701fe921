-- A cut that is given up.
--     given_up_book, given_up      with its owners back the system is as it was
use Rattle.std.proofs.Common.{◌≡◌, ℕ, sym, ap, subst, ◌∙◌}
use Rattle.fd_book.specs.Books.{Books}
use Rattle.plain_machine.specs.declared.kernel.PlainKernel.{PlainKernel}
use Rattle.wire_net.specs.Whereabouts.{Agents}
use Rattle.host_tables.specs.declared.system.System.{System}
use Rattle.wrap_names.specs.Wrapping.{IsWrapped}
use Rattle.leader_vote.specs.Owners.{Owners, with_owners}
use Rattle.cut_stages.specs.Cuts.{with_book, put_back, changed_in, IsCut}
use Rattle.cut_stages.proofs.OtherOwners.{owners_back}

module _ (s : System) (next_id : ℕ) (k : PlainKernel) (owners : Owners) (agents : Agents)
    (cut : IsCut s next_id k owners agents) where
  pub given_up_book : with_owners owners s.kernel.book ≡ cut.before.kernel.book
  given_up_book = owners_back cut.before.kernel.book s.kernel.book owners cut.book cut.kept

  -- where the channels are as they were
  pub given_up : s.kernel.net.channels ≡ cut.before.kernel.net.channels → IsWrapped (put_back owners s)
      next_id k
  given_up same =
      subst (λ x. IsWrapped x next_id k)
      (sym (ap (λ (x : System). with_book x (with_owners owners s.kernel.book)) cut.rest
      ∙ ap (λ (b : Books). changed_in cut.before b s.kernel.net.channels) given_up_book
      ∙ ap (λ m. changed_in cut.before cut.before.kernel.book m) same))
      cut.wrapped
