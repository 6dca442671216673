mod Numbered
mod CountLaws
mod SpotLaws
mod NumberLaws
mod SumLaws
mod DrawLaws
