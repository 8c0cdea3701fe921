mod Suspending
mod Voted
mod Leading
mod ClosedEnds
mod Electing
mod Moved
mod FirstOnes
mod Supported
