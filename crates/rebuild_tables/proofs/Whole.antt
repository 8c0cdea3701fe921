-- A book with all of a kernel part's descriptors has all its descriptions, since each is held.
--     all_rebuilt
use Rattle.std.proofs.Common.{◌≡◌, Bool, true, false, refl, sym, ◌∙◌}
use Rattle.std.specs.Prelude.{Option, Some, None, option_map}
use Rattle.std.specs.FinMap as map
use Rattle.views.proofs.MapLaws.{true_false}
use Rattle.sys_abi.specs.declared.identity.DescId.{DescId}
use Rattle.fd_book.specs.Books.{Books}
use Rattle.virt_ids.specs.Pairs.{Pairs}
use Rattle.plain_tables.specs.declared.description.Description.{Description}
use Rattle.plain_tables.specs.Tables.{is_held}
use Rattle.plain_machine.specs.declared.kernel.PlainKernel.{PlainKernel}
use Rattle.plain_machine.specs.Kernels.{IsKernel}
use Rattle.rebuild_tables.specs.Rebuilt.{IsBook, IsBookOf, real_desc}

module _ (k : PlainKernel) (whole : IsKernel k) (ids : Pairs) (b : Books)
    (is : IsBookOf ids k.descriptors k.descriptions b) where
  unheld : (id : DescId) → is_held k.descriptors id ≡ false → (o : Option Description)
      → map.get k.descriptions id ≡ o → None ≡ option_map (real_desc ids) o
  unheld id none None found = refl
  unheld id none (Some x) found = true_false (sym (whole.descriptions.held id x found) ∙ none)

  each : (id : DescId) (t : Bool) → is_held k.descriptors id ≡ t
      → map.get b.descriptions id ≡ option_map (real_desc ids) (map.get k.descriptions id)
  each id true held = is.held id held
  each id false none = is.others id none ∙ unheld id none (map.get k.descriptions id) refl

  pub all_rebuilt : IsBook k ids b
  all_rebuilt = record { descriptors = is.same; descriptions = λ id. each id (is_held k.descriptors id) refl }
