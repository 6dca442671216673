mod StoreyFloors
mod CornerLaws
mod WayLaws
