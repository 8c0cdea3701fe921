use Rattle.std.proofs.Common.{◌+◌, sym, subst}
use Rattle.std.specs.FinMap as map
use Rattle.virt_ids.specs.declared.id_fault.IdFault.TheVariants.{Unknown}
use Rattle.seen_kernel.proofs.Paired.{number_told, none_told}
use Rattle.seen_kernel.proofs.SeenDescriptors.{TableTo, table_begun, table_on, table_done, table_unpaired, fewer}
use Rattle.seen_kernel.proofs.descriptors.add_table.Goals as goal

pub loop-fd-init : goal.loop-fd-init
loop-fd-init c = table_begun c.args.ids.now c.args.book.now c.args.r c.args.seen.now

pub loop-fd-preserved : goal.loop-fd-preserved
loop-fd-preserved c =
    let number = number_told (map.get c.args.ids.now.virts c.args.r) c.in-Ok.v Unknown c.in-Ok.ensures in
    subst (λ seen. TableTo c.args.ids.now c.args.book.now c.args.r c.args.seen.now seen (c.in-Some.fd.0 + 1))
    (sym c.in_ok-add_descriptor.ensures)
    (table_on c.args.ids.now c.args.book.now c.args.r c.in-Ok.v number c.args.seen.now c.loop-fd.seen _
    c.in-Some.fd.0 c.in-Some.ensures c.loop-fd.invariant)

pub loop-fd-smaller : goal.loop-fd-smaller
loop-fd-smaller c = fewer _ c.in-Some.fd.0 c.in-Some.ensures.from_on c.in-Some.ensures.in_range

pub returns-in_default : goal.returns-in_default
returns-in_default c ks left =
    table_unpaired c.args.ids.now c.args.book.now c.args.r (none_told _ _ _ c.in_default.ensures) ks
    c.args.seen.now left

pub returns : goal.returns
returns c =
    table_done c.args.ids.now c.args.book.now c.args.r c.args.seen.now c.loop-fd.seen _
    c.in_default-next_fd.ensures c.loop-fd.invariant
