-- Which calls a group of rows leaves to the next one.
--     IsNoDescriptorCall q     it isn't on descriptors
--     IsNoFileCall q           nor on files
--     IsSocketCall q           it is on sockets, or no row has it
use Rattle.host_tables.specs.declared.request.RealRequest.{RealRequest}
use Rattle.host_tables.specs.declared.request.RealRequest.TheVariants.{Eventfd2, Dup, Dup3, Fcntl, Close, Pipe2, Unlinkat, Openat, Lseek, Read, Write, Socket, Socketpair, Listen, Accept, Connect, Setsockopt, Shutdown, Unknown}

abbrev pub IsNoDescriptorCall : RealRequest → Type 0
IsNoDescriptorCall (Eventfd2 value flags id) = ⊥
IsNoDescriptorCall (Dup fd) = ⊥
IsNoDescriptorCall (Dup3 fd to flags) = ⊥
IsNoDescriptorCall (Fcntl fd command argument target) = ⊥
IsNoDescriptorCall (Close fd) = ⊥
IsNoDescriptorCall (Pipe2 flags ids) = ⊥
IsNoDescriptorCall _ = Unit {0}

abbrev pub IsNoFileCall : RealRequest → Type 0
IsNoFileCall (Eventfd2 value flags id) = ⊥
IsNoFileCall (Dup fd) = ⊥
IsNoFileCall (Dup3 fd to flags) = ⊥
IsNoFileCall (Fcntl fd command argument target) = ⊥
IsNoFileCall (Close fd) = ⊥
IsNoFileCall (Pipe2 flags ids) = ⊥
IsNoFileCall (Unlinkat directory flags) = ⊥
IsNoFileCall (Openat directory flags id) = ⊥
IsNoFileCall (Lseek fd offset whence) = ⊥
IsNoFileCall (Read fd count) = ⊥
IsNoFileCall (Write fd count) = ⊥
IsNoFileCall _ = Unit {0}

abbrev pub IsSocketCall : RealRequest → Type 0
IsSocketCall (Socket domain socket_type protocol id) = Unit {0}
IsSocketCall (Socketpair domain socket_type protocol streams datagrams) = Unit {0}
IsSocketCall (Listen fd backlog port_free of_pipe) = Unit {0}
IsSocketCall (Accept fd id of_pipe) = Unit {0}
IsSocketCall (Connect fd to channel port_free of_pipe) = Unit {0}
IsSocketCall (Setsockopt fd of_pipe) = Unit {0}
IsSocketCall (Shutdown fd how of_pipe) = Unit {0}
IsSocketCall (Unknown number) = Unit {0}
IsSocketCall _ = ⊥
