-- What is done by the object of a description that a descriptor leads to.
--     for_object      it is so for the plain object, if it is for what the real one is told as
use Rattle.std.proofs.Common.{◌≡◌, sym, subst}
use Rattle.fd_tables.specs.declared.description.Object as real_object
use Rattle.plain_tables.specs.declared.description.Object as plain
use Rattle.host_tables.specs.declared.kernel.Kernel.{Kernel}
use Rattle.host_tables.specs.Descriptions.{seen_object}
use Rattle.host_tables.specs.Stands.{Given}
use Rattle.host_files.specs.OfHostDescriptors.declared.held.Held.{Held}
use Rattle.host_files.specs.OfHostDescriptors.Held.{seen_held}

pub for_object : (g : Given) (real : Kernel) (h : Held) (P : plain.Object → Type 0) (o : real_object.Object)
    → h.description.object ≡ o → P (seen_object g.names real.datagrams h.desc o)
    → P (seen_held g real h).description.object
for_object g real h P o is x = subst (λ (w : real_object.Object). P
    (seen_object g.names real.datagrams h.desc w)) (sym is) x
