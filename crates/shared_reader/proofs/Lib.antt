mod HolderLaws
mod HolderPasses
mod KnownThreads
mod ReadLists
