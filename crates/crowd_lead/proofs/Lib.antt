mod CutLaws
mod PlaceLaws
