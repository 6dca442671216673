mod PlainSearch
