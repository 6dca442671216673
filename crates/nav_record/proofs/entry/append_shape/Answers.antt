use Rattle.nav_record.proofs.entry.append_shape.Goals as goal

pub returns-in-Cylinder : goal.returns-in-Cylinder
returns-in-Cylinder c = rw c.in-Cylinder.is (c.append_line-in-Cylinder.ensures)
