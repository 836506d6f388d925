mod Hold
