-- What a book is opened over.
use Rattle.nav_ground.specs.declared.setting.Setting.{Setting}
use Rattle.nav_ground.specs.declared.field.Field.{Field}
use Rattle.nav_ground.specs.declared.history.Ground.{Ground}
use Rattle.nav_ground.specs.Layers.{layers_of}

-- the ground of a setting and a field
abbrev pub ground_of : Setting → Field → Ground
ground_of setting field = record { setting = setting; field = field; layers = layers_of setting field }
