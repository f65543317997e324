pub mod AppliedChanges
pub mod FilterAfter
pub mod Compared
pub mod MergedFilters
pub mod SourceSets
pub mod Unchanged
