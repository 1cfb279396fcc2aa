use Rattle.stores.proofs.sorted.Sorted.+nearest_vector.Given as goal

-- a parent comes before its path
abbrev pub decreases-nearest_vector : goal.decreases-nearest_vector
decreases-nearest_vector l = l.path.number
