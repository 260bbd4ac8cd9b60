use Rattle.tree_lines.proofs.+put_module.Given as goal

abbrev pub decreases-put_module : goal.decreases-put_module
decreases-put_module g l = l.depth
