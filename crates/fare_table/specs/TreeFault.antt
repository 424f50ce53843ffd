-- The fault of a text that has no tree.
use Rattle.toml_reading.specs.declared.document.TreeFault.{TreeFault}
use Rattle.toml_reading.specs.declared.document.TreeFault.TheVariants as trees
use Rattle.fare_table.specs.declared.fault.TableFault.{TableFault}
use Rattle.fare_table.specs.declared.fault.TableFault.TheVariants.{Memory, NotToml}

-- a text has no tree for want of memory, or is no TOML document
abbrev pub tree_fault : TreeFault → TableFault
tree_fault trees.Memory = Memory
tree_fault trees.NotToml = NotToml
