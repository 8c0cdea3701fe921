pub mod Memory
pub mod Registers
pub mod Instructions
pub mod Steps
pub mod Attempts
pub mod Rows
pub mod Buffers
pub mod Replies
pub mod Threads
pub mod Twins
pub mod Put
pub mod Pages
pub mod Deliveries
pub mod Local
pub mod Start
pub mod Valid
pub mod Launches
pub mod Examples
pub mod Delivered
pub mod Commands
pub use Rattle.elf32.specs.OfViews
pub use Rattle.call_table.specs as OfCallTable
pub use Rattle.elf32.specs as OfElf32
