mod Counts
mod OfReads
mod OfTrees
