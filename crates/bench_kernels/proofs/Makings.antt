-- The calls that a benchmark makes are of words, and such as it may make.
use Rattle.std.proofs.Common.{◌<◌, ◌^◌, ℕ, refl, arith}
use Rattle.call_table.specs.declared.request.Request.TheVariants.{Getpid, Fcntl, Pipe2, Socketpair, Write, Read, Clone, ExitGroup, Wait4}
use Rattle.plain_process.specs.Valid.{IsRequest}
use Rattle.bench_kernels.specs.Owning.{MayMake}

pub look_made : MayMake Getpid
unfolding IsRequest
look_made = record { words = tt; kernels = refl; stays = refl }

pub flags_made : (fd : ℕ) → fd < 2 ^ 32 → MayMake (Fcntl fd 3 0)
unfolding IsRequest
flags_made fd low = record { words = (low, omega arith, omega arith); kernels = refl; stays = refl }

pub pipe_made : MayMake (Pipe2 0 0)
unfolding IsRequest
pipe_made = record { words = (omega arith, omega arith); kernels = refl; stays = refl }

pub pair_made : MayMake (Socketpair 1 1 0 0)
unfolding IsRequest
pair_made = record { words = (omega arith, omega arith, omega arith, omega arith); kernels = refl; stays = refl }

pub write_made : (fd count : ℕ) → fd < 2 ^ 32 → count < 2 ^ 32 → MayMake (Write fd 0 count)
unfolding IsRequest
write_made fd count low few = record { words = (low, omega arith, few); kernels = refl; stays = refl }

pub read_made : (fd count : ℕ) → fd < 2 ^ 32 → count < 2 ^ 32 → MayMake (Read fd 0 count)
unfolding IsRequest
read_made fd count low few = record { words = (low, omega arith, few); kernels = refl; stays = refl }

pub fork_made : MayMake (Clone 17 0 0 0 0)
unfolding IsRequest
fork_made = record {
  words = (omega arith, omega arith, omega arith, omega arith, omega arith);
  kernels = refl;
  stays = refl;
}

pub end_made : MayMake (ExitGroup 0)
unfolding IsRequest
end_made = record { words = omega arith; kernels = refl; stays = refl }

pub wait_made : MayMake (Wait4 4294967295 0 0 0)
unfolding IsRequest
wait_made = record { words = (omega arith, omega arith, omega arith, omega arith); kernels = refl; stays = refl }
